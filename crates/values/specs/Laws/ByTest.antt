-- The laws of a kind over listed sets, and that its answers are the smallest, from one test that antt computes:
-- it goes through each listed set, or each two of them. Assumes nothing.
use Rattle.std.specs.Prelude.{◌≡◌, Bool, true, false, ◌&&◌, List}
use Rattle.std.specs.List.{list_all}
use Rattle.std.proofs.lemmas.Bool.{and_from, and_parts}
use Rattle.values.specs.Pairs.{Pair, Pairs, only, Single}
use Rattle.values.specs.Values.{Gates, pairs}
use Rattle.values.specs.Kind.{Kind, Lawful, LawfulGates, LawfulStick}
use Rattle.values.specs.Made.{made_by_one, made_by_two, Among, Smallest, SmallestGates, SmallestAnswers, implies, holds_all}
use Rattle.values.specs.Laws.Tests.{every_at, same_set, same_set_is, among, among_is, single, single_is, single_test, inhabited, inhabited_is, holds_member, holds_test, implied}
use Rattle.values.specs.Laws.Members.{made_one_has, made_two_has}

-- answers that are the smallest

abbrev pub smallest_test : List Pairs → Pairs → Pairs → Bool
smallest_test sets s r = among sets r && (holds_all r s && list_all (λ t. implies (holds_all t s) (holds_all t r)) sets)

smallest_is : (sets : List Pairs) (s r : Pairs) → smallest_test sets s r ≡ true → Smallest sets s r
smallest_is sets s r h =
    let least_test : Pairs → Bool = λ t. implies (holds_all t s) (holds_all t r) in
    let (listed, rest) = and_parts (among sets r) _ h in
    let (holds, least) = and_parts (holds_all r s) _ rest in
    record {
      listed = among_is sets r listed;
      holds = holds_member r s holds;
      least = λ t m k. holds_member t r (implied (holds_all t s) _ (every_at least_test sets least t m) (holds_test t s k));
    }

abbrev one_test : List Pairs → (Pair → Pair) → (Pairs → Pairs) → Bool
one_test sets f F = list_all (λ s. smallest_test sets (made_by_one f s) (F s)) sets

abbrev two_test : List Pairs → (Pair → Pair → Pair) → (Pairs → Pairs → Pairs) → Bool
two_test sets f F = list_all (λ s. list_all (λ t. smallest_test sets (made_by_two f s t) (F s t)) sets) sets

one_is : (sets : List Pairs) (f : Pair → Pair) (F : Pairs → Pairs) → one_test sets f F ≡ true
    → (s : Pairs) → Among sets s → Smallest sets (made_by_one f s) (F s)
one_is sets f F h s m = smallest_is sets _ _ (every_at (λ s. smallest_test sets (made_by_one f s) (F s)) sets h s m)

two_is : (sets : List Pairs) (f : Pair → Pair → Pair) (F : Pairs → Pairs → Pairs) → two_test sets f F ≡ true
    → (s t : Pairs) → Among sets s → Among sets t → Smallest sets (made_by_two f s t) (F s t)
two_is sets f F h s t m n =
    smallest_is sets _ _
    (every_at (λ t. smallest_test sets (made_by_two f s t) (F s t)) sets
    (every_at (λ s. list_all (λ t. smallest_test sets (made_by_two f s t) (F s t)) sets) sets h s m) t n)

-- answers of one pair

abbrev single_one_test : List Pairs → (Pairs → Pairs) → Bool
single_one_test sets F = list_all (λ s. implies (single s) (single (F s))) sets

abbrev single_two_test : List Pairs → (Pairs → Pairs → Pairs) → Bool
single_two_test sets F = list_all (λ s. list_all (λ t. implies (single s && single t) (single (F s t))) sets) sets

single_one_is : (sets : List Pairs) (F : Pairs → Pairs) → single_one_test sets F ≡ true
    → (s : Pairs) → Among sets s → Single s → Single (F s)
single_one_is sets F h s m k =
    single_is (F s) (implied (single s) _ (every_at (λ s. implies (single s) (single (F s))) sets h s m) (single_test s k))

single_two_is : (sets : List Pairs) (F : Pairs → Pairs → Pairs) → single_two_test sets F ≡ true
    → (s t : Pairs) → Among sets s → Among sets t → Single s → Single t → Single (F s t)
single_two_is sets F h s t m n k l =
    let row = every_at (λ s. list_all (λ t. implies (single s && single t) (single (F s t))) sets) sets h s m in
    single_is (F s t)
    (implied (single s && single t) _ (every_at (λ t. implies (single s && single t) (single (F s t))) sets row t n)
    (and_from (single s) (single t) (single_test s k) (single_test t l)))

-- the tests of a kind

abbrev four : Bool → Bool → Bool → Bool → Bool
four a b c d = (a && b) && (c && d)

four_are : (a b c d : Bool) → four a b c d ≡ true → (a ≡ true) × (b ≡ true) × (c ≡ true) × (d ≡ true)
four_are a b c d h =
    let (front, back) = and_parts (a && b) (c && d) h in
    let (at_a, at_b) = and_parts a b front in
    let (at_c, at_d) = and_parts c d back in
    (at_a, at_b, at_c, at_d)

-- each answer of the gates is the smallest listed set that holds what the operands can make
abbrev pub answers_test : List Pairs → Gates Pairs → Bool
answers_test sets G =
    four (one_test sets pairs.gates.negate G.negate) (two_test sets pairs.gates.both G.both)
    (two_test sets pairs.gates.either G.either) (two_test sets pairs.gates.differ G.differ)

-- operands of one pair have an answer of one pair
abbrev pub singles_test : List Pairs → Gates Pairs → Bool
singles_test sets G =
    four (single_one_test sets G.negate) (single_two_test sets G.both) (single_two_test sets G.either) (single_two_test sets G.differ)

-- known levels are known and listed
abbrev pub known_test : List Pairs → Gates Pairs → Bool
known_test sets G =
    four (same_set (G.known false) (only false false)) (same_set (G.known true) (only true true))
    (among sets (G.known false)) (among sets (G.known true))

-- an open input admits equal levels and is listed, and no listed set is empty
abbrev pub unknown_test : List Pairs → Pairs → Bool
unknown_test sets unknown = four unknown.has00 unknown.has11 (among sets unknown) (list_all inhabited sets)

abbrev pub gates_test : List Pairs → Gates Pairs → Pairs → Bool
gates_test sets G unknown = four (answers_test sets G) (singles_test sets G) (known_test sets G) (unknown_test sets unknown)

abbrev pub stick_test : List Pairs → (Bool → Pairs → Pairs) → Bool
stick_test sets stick =
    four (one_test sets (pairs.stick false) (stick false)) (one_test sets (pairs.stick true) (stick true))
    (single_one_test sets (stick false)) (single_one_test sets (stick true))

abbrev pub kind_test : List Pairs → Kind → Bool
kind_test sets K = gates_test sets K.values.gates K.unknown && stick_test sets K.values.stick

-- what the tests say

at_levels : (P : Bool → Type 0) → P false → P true → (b : Bool) → P b
at_levels P f t false = f
at_levels P f t true = t

module _ (sets : List Pairs) (G : Gates Pairs) where
  smallest_by_answers : answers_test sets G ≡ true → SmallestGates sets G
  smallest_by_answers h =
      let (n, b, e, d) = four_are _ _ _ _ h in
      record {
        negate = one_is sets pairs.gates.negate G.negate n;
        both = two_is sets pairs.gates.both G.both b;
        either = two_is sets pairs.gates.either G.either e;
        differ = two_is sets pairs.gates.differ G.differ d;
      }

  pub smallest_gates : (unknown : Pairs) → gates_test sets G unknown ≡ true → SmallestGates sets G
  smallest_gates unknown h = smallest_by_answers (four_are (answers_test sets G) (singles_test sets G) (known_test sets G) (unknown_test sets unknown) h).0

  pub lawful_gates : (unknown : Pairs) → gates_test sets G unknown ≡ true → LawfulGates G unknown (Among sets)
  lawful_gates unknown h =
      let (answers, singles, known, start) = four_are (answers_test sets G) (singles_test sets G) (known_test sets G) (unknown_test sets unknown) h in
      let small = smallest_by_answers answers in
      let (n, b, e, d) = four_are _ _ _ _ singles in
      let (known0, known1, in0, in1) = four_are _ _ _ _ known in
      let (has00, has11, listed, full) = four_are _ _ _ _ start in
      record {
        inhabited = λ s m. inhabited_is s (every_at inhabited sets full s m);
        known_is = at_levels (λ b. G.known b ≡ only b b) (same_set_is _ _ known0) (same_set_is _ _ known1);
        unknown_00 = has00;
        unknown_11 = has11;
        known_in = at_levels (λ b. Among sets (G.known b)) (among_is sets _ in0) (among_is sets _ in1);
        unknown_in = among_is sets unknown listed;
        negate_in = λ s m. (small.negate s m).listed;
        both_in = λ s t m l. (small.both s t m l).listed;
        either_in = λ s t m l. (small.either s t m l).listed;
        differ_in = λ s t m l. (small.differ s t m l).listed;
        negate_keeps = λ s p m h. (small.negate s m).holds (pairs.gates.negate p) (made_one_has pairs.gates.negate s p h);
        both_keeps = λ s t p q m l h k. (small.both s t m l).holds (pairs.gates.both p q) (made_two_has pairs.gates.both s t p q h k);
        either_keeps = λ s t p q m l h k. (small.either s t m l).holds (pairs.gates.either p q) (made_two_has pairs.gates.either s t p q h k);
        differ_keeps = λ s t p q m l h k. (small.differ s t m l).holds (pairs.gates.differ p q) (made_two_has pairs.gates.differ s t p q h k);
        negate_single = single_one_is sets G.negate n;
        both_single = single_two_is sets G.both b;
        either_single = single_two_is sets G.either e;
        differ_single = single_two_is sets G.differ d;
      }

module _ (sets : List Pairs) (stick : Bool → Pairs → Pairs) where
  stick_tests : stick_test sets stick ≡ true
      → (one_test sets (pairs.stick false) (stick false) ≡ true) × (one_test sets (pairs.stick true) (stick true) ≡ true)
      × (single_one_test sets (stick false) ≡ true) × (single_one_test sets (stick true) ≡ true)
  stick_tests = four_are _ _ _ _

  pub smallest_stick : stick_test sets stick ≡ true → (v : Bool) (s : Pairs) → Among sets s → Smallest sets (made_by_one (pairs.stick v) s) (stick v s)
  smallest_stick h =
      let tests = stick_tests h in
      at_levels (λ v. (s : Pairs) → Among sets s → Smallest sets (made_by_one (pairs.stick v) s) (stick v s))
      (one_is sets (pairs.stick false) (stick false) tests.0) (one_is sets (pairs.stick true) (stick true) tests.1)

  pub lawful_stick : stick_test sets stick ≡ true → LawfulStick stick (Among sets)
  lawful_stick h =
      let tests = stick_tests h in
      record {
        stick_in = λ v s m. (smallest_stick h v s m).listed;
        stick_keeps = λ v s p m k. (smallest_stick h v s m).holds (pairs.stick v p) (made_one_has (pairs.stick v) s p k);
        stick_single = at_levels (λ v. (s : Pairs) → Among sets s → Single s → Single (stick v s))
            (single_one_is sets (stick false) tests.2) (single_one_is sets (stick true) tests.3);
      }

module _ (sets : List Pairs) (K : Kind) where
  gates_pass : kind_test sets K ≡ true → gates_test sets K.values.gates K.unknown ≡ true
  gates_pass h = (and_parts _ (stick_test sets K.values.stick) h).0

  stick_passes : kind_test sets K ≡ true → stick_test sets K.values.stick ≡ true
  stick_passes h = (and_parts (gates_test sets K.values.gates K.unknown) _ h).1

  pub smallest_by_test : kind_test sets K ≡ true → SmallestAnswers sets K
  smallest_by_test h = record {
    gates = smallest_gates sets K.values.gates K.unknown (gates_pass h);
    stick = smallest_stick sets K.values.stick (stick_passes h);
  }

  pub lawful_by_test : kind_test sets K ≡ true → Lawful K (Among sets)
  lawful_by_test h = record {
    gates = lawful_gates sets K.values.gates K.unknown (gates_pass h);
    stick = lawful_stick sets K.values.stick (stick_passes h);
  }
