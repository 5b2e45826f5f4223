mod SearchLaws
mod LibraryLaws
