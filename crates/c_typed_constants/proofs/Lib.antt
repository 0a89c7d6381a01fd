mod Answers
mod Trees
mod Agreement
