mod InitForms
