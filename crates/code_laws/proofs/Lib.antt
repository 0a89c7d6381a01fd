mod Lists
mod Servers
mod Units
mod Origins
mod Decisions
mod OneCode
