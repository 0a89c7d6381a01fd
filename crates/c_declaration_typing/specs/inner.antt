pub mod LeafForms
