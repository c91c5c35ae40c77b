pub mod EndLemmas
pub mod ImageLemmas
pub mod LayoutLemmas
pub mod PartsLemmas
mod PictureExamples
pub mod PictureLemmas
pub mod PlacesLemmas
pub mod ShadesLemmas
pub mod UnrepeatedLemmas
pub mod WindowLemmas
