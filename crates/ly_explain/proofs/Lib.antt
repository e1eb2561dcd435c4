mod ExplainedLemmas
mod FormLemmas
