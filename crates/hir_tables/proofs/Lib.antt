pub mod Growth
mod InternerLemmas
mod PlainLemmas
mod Exact
mod TableLemmas
