pub mod BufferLemmas
pub mod DownloadLemmas
pub mod KnownLemmas
pub mod RunLemmas
pub mod UploadLemmas
pub mod WireLemmas
