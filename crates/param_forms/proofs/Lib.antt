-- Laws of written forms.
pub mod ValueForms
