mod WholeImageExamples
pub mod ApartLemmas
pub mod BlankTablesLemmas
pub mod ExtentsLemmas
pub mod ImagesLemmas
pub mod KeptTableLemmas
pub mod L2TablesLemmas
pub mod LookupsLemmas
pub mod SoundLemmas
pub mod WholeImageLemmas
