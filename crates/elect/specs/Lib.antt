pub mod Leader
