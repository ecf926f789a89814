-- What each byte is to a text: letters a to z, digits, round brackets, the space and the line feed are allowed.
use Rattle.std.specs.Prelude.{ℕ, Bool, cond, not, ◌&&◌, ◌||◌, ◌==◌, nat_le}
use Rattle.words.specs.declared.bytes.ByteClass.{ByteClass}
use Rattle.words.specs.declared.bytes.ByteClass.TheVariants.{InWord, Opening, Closing, Space, LineFeed, Forbidden}

abbrev pub letter : ℕ → Bool
letter b = nat_le 97 b && nat_le b 122

abbrev pub digit : ℕ → Bool
digit b = nat_le 48 b && nat_le b 57

-- b is a letter or a digit
abbrev pub in_word : ℕ → Bool
in_word b = letter b || digit b

abbrev pub class : ℕ → ByteClass
class b =
    cond (in_word b) InWord
    (cond (b == 40) Opening
    (cond (b == 41) Closing
    (cond (b == 32) Space
    (cond (b == 10) LineFeed Forbidden))))

-- b is of that class
abbrev pub is_of : ByteClass → ℕ → Bool
is_of InWord b = in_word b
is_of Opening b = b == 40
is_of Closing b = b == 41
is_of Space b = b == 32
is_of LineFeed b = b == 10
is_of Forbidden b = not (in_word b || (b == 40 || (b == 41 || (b == 32 || b == 10))))
