-- UTF-8, and where a text is not UTF-8 (SCOPE 2.5 and 2.6).
pub mod Grammar
pub mod Utf8
