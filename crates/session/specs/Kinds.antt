-- What the kinds of a job line do to sets of pairs.
use Rattle.values.specs.Kind as values
use Rattle.values.specs.Five.{five}
use Rattle.values.specs.Seven.{seven}
use Rattle.values.specs.Nine.{nine}
use Rattle.jobs.specs.declared.job.Kind.{Kind}
use Rattle.jobs.specs.declared.job.Kind.TheVariants.{Five, Seven, Nine}

abbrev pub kind_of : Kind → values.Kind
kind_of Five = five
kind_of Seven = seven
kind_of Nine = nine
