mod Sources
mod soundness
mod completeness
