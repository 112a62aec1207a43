mod NameAgain
