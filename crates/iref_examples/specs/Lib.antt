pub mod Below
pub mod Caches
pub mod Components
pub mod ContextTexts
pub mod Inside
pub mod Links
pub mod WrongLines
