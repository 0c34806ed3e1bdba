-- What the proofs share: values by their form, known names as tokens, and the loop over the parameters of a link.
mod Values
mod KnownNames
mod OfParams
