mod PagesLemmas
