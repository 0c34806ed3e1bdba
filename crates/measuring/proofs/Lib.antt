-- Laws of measuring the written form.
pub mod FormLengths
pub mod MeasuredUpTo
