use Rattle.std.proofs.Common.{length, Ok, refl, rules}
use Rattle.law.specs.declared.call.Outcome.TheVariants.{Entered, Searched, Covered}
use Rattle.law.specs.Histories.{event_of}
use Rattle.law.proofs.Changing.{same_stays, step_stays}
use Rattle.law.proofs.Holding.{keeps_law}
use Rattle.law.proofs.performing.perform.Goals as goal

pub returns-in_err-number-in-Enter-clause-law : goal.returns-in_err-number-in-Enter-clause-law
returns-in_err-number-in-Enter-clause-law g c = keeps_law _ _ g.met.V.ValueKind.lawful _ _ _ _ refl (search rules) (search rules)

pub returns-in_err-answer-in-Search-clause-law : goal.returns-in_err-answer-in-Search-clause-law
returns-in_err-answer-in-Search-clause-law g c = keeps_law _ _ g.met.V.ValueKind.lawful _ _ _ _ refl (search rules) (search rules)

pub returns-in_err-count-in-Cover-clause-law : goal.returns-in_err-count-in-Cover-clause-law
returns-in_err-count-in-Cover-clause-law g c = keeps_law _ _ g.met.V.ValueKind.lawful _ _ _ _ refl (search rules) (search rules)

pub returns-in_ok-number-in-Enter-clause-law : goal.returns-in_ok-number-in-Enter-clause-law
returns-in_ok-number-in-Enter-clause-law g c = keeps_law _ _ g.met.V.ValueKind.lawful _ _ _ _ refl (search rules) (search rules)

pub returns-in_ok-answer-in-Search-clause-law : goal.returns-in_ok-answer-in-Search-clause-law
returns-in_ok-answer-in-Search-clause-law g c = keeps_law _ _ g.met.V.ValueKind.lawful _ _ _ _ refl (search rules) (search rules)

pub returns-in_ok-count-in-Cover-clause-law : goal.returns-in_ok-count-in-Cover-clause-law
returns-in_ok-count-in-Cover-clause-law g c = keeps_law _ _ g.met.V.ValueKind.lawful _ _ _ _ refl (search rules) (search rules)

pub returns-in_err-answer-in-Search-clause-settled : goal.returns-in_err-answer-in-Search-clause-settled
returns-in_err-answer-in-Search-clause-settled g c = same_stays _ _ (search rules)

pub returns-in_err-count-in-Cover-clause-settled : goal.returns-in_err-count-in-Cover-clause-settled
returns-in_err-count-in-Cover-clause-settled g c = same_stays _ _ (search rules)

pub returns-in_ok-number-in-Enter-clause-settled : goal.returns-in_ok-number-in-Enter-clause-settled
returns-in_ok-number-in-Enter-clause-settled g c =
    step_stays g.V.ValueKind.kind c.args.folder.now.circuit (event_of c.args.call (length c.args.row.now) (Ok (Entered c.in_ok-number-in-Enter.number))) _ _ (search rules)

pub returns-in_ok-answer-in-Search-clause-settled : goal.returns-in_ok-answer-in-Search-clause-settled
returns-in_ok-answer-in-Search-clause-settled g c =
    step_stays g.V.ValueKind.kind c.args.folder.now.circuit (event_of c.args.call (length c.args.row.now) (Ok (Searched c.in_ok-answer-in-Search.answer))) _ _ (search rules)

pub returns-in_ok-count-in-Cover-clause-settled : goal.returns-in_ok-count-in-Cover-clause-settled
returns-in_ok-count-in-Cover-clause-settled g c =
    step_stays g.V.ValueKind.kind c.args.folder.now.circuit (event_of c.args.call (length c.args.row.now) (Ok (Covered c.in_ok-count-in-Cover.count))) _ _ (search rules)
