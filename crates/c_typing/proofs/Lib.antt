mod StatementForms
mod ItemLists
mod OneVerdict
