-- The names of the value kinds.
use Rattle.std.specs.Prelude.{ℕ, List, codes}
use Rattle.jobs.specs.declared.job.Kind.{Kind}
use Rattle.jobs.specs.declared.job.Kind.TheVariants.{Five, Seven, Nine}

abbrev pub kind_text : Kind → List ℕ
kind_text Five = codes "five"
kind_text Seven = codes "seven"
kind_text Nine = codes "nine"
