mod WordNames
mod ReadNames
mod TableLines
