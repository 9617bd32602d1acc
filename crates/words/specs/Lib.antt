-- What a reader must believe of this crate: Words (the smaller of two numbers, and words that are all 0), Written (what is written one
-- after the other) and Page (the same on a page).
pub mod Words
pub mod Written
pub mod Page
