mod Lists
mod Sound
mod Valid
mod Words
