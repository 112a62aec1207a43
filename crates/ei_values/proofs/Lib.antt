mod Last
mod OneByOne
