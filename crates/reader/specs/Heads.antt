-- The heads of the lines after the inputs line.
use Rattle.std.specs.Prelude.{◌≡◌, ℕ, true, false, cond, List, codes, Result, MatchResult}
use Rattle.std.specs.Str.{bytes_eq}
use Rattle.refusals.specs.declared.layers.FormRefusal.{FormRefusal}
use Rattle.refusals.specs.declared.layers.FormRefusal.TheVariants.{Misplaced, UnknownWord}
use Rattle.reader.specs.declared.head.Head.{Head}
use Rattle.reader.specs.declared.head.Head.TheVariants.{Gate, Outputs}
use Rattle.reader.specs.Reading.{is_head}

abbrev pub head_word : Head → List ℕ
head_word Gate = codes "gate"
head_word Outputs = codes "outputs"

-- the refusal of a word where another head is due
abbrev pub wrong_head : List ℕ → ℕ → FormRefusal
wrong_head word place = cond (is_head word) (Misplaced place) (UnknownWord place)

-- the head that a word is, or the refusal of a word that is none
abbrev pub HeadOf : List ℕ → ℕ → Result Head FormRefusal → Type 0
HeadOf word place r =
    MatchResult r (λ h. bytes_eq word (head_word h) ≡ true)
    (λ e. (bytes_eq word (codes "gate") ≡ false) × (bytes_eq word (codes "outputs") ≡ false) × (e ≡ wrong_head word place))
