mod BuiltinLemmas
mod HeadLemmas
