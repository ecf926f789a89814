-- The halves of a set that is made of halves are those halves. Assumes nothing.
use Rattle.std.proofs.Common.{◌≡◌, refl}
use Rattle.values.specs.Pairs.{Pairs}
use Rattle.values.specs.Halves.{of_halves, good_half, faulty_half}
use Rattle.values.specs.Seven.{forced}
use Rattle.values.specs.declared.half.Half.{Half}
use Rattle.values.specs.declared.half.Half.TheVariants.{Zero, One, Unknown}

pub good_half_of : (g f : Half) → good_half (of_halves g f) ≡ g
good_half_of Zero Zero = refl
good_half_of Zero One = refl
good_half_of Zero Unknown = refl
good_half_of One Zero = refl
good_half_of One One = refl
good_half_of One Unknown = refl
good_half_of Unknown Zero = refl
good_half_of Unknown One = refl
good_half_of Unknown Unknown = refl

pub faulty_half_of : (g f : Half) → faulty_half (of_halves g f) ≡ f
faulty_half_of Zero Zero = refl
faulty_half_of Zero One = refl
faulty_half_of Zero Unknown = refl
faulty_half_of One Zero = refl
faulty_half_of One One = refl
faulty_half_of One Unknown = refl
faulty_half_of Unknown Zero = refl
faulty_half_of Unknown One = refl
faulty_half_of Unknown Unknown = refl

-- the operands' halves a b and c d, combined half by half by h and joined
pub combined : (join : Half → Half → Pairs) (h : Half → Half → Half) (a b c d : Half)
    → join (h a c) (h b d)
    ≡ join (h (good_half (of_halves a b)) (good_half (of_halves c d))) (h (faulty_half (of_halves a b)) (faulty_half (of_halves c d)))
combined join h a b c d = rw (good_half_of a b, good_half_of c d, faulty_half_of a b, faulty_half_of c d) refl

-- the same of halves x y that calls give, without a rule on them, as in nine
pub nine_combined : (h : Half → Half → Half) (a b c d x y : Half) → x ≡ h a c → y ≡ h b d
    → of_halves x y
    ≡ of_halves (h (good_half (of_halves a b)) (good_half (of_halves c d))) (h (faulty_half (of_halves a b)) (faulty_half (of_halves c d)))
nine_combined h a b c d x y e k = rw (e, k) (combined of_halves h a b c d)

-- and of halves g f that are made of x y by the rule of seven
pub seven_combined : (h : Half → Half → Half) (a b c d x y g f : Half) → x ≡ h a c → y ≡ h b d → g ≡ x → f ≡ forced x y
    → of_halves g f
    ≡ of_halves (h (good_half (of_halves a b)) (good_half (of_halves c d)))
    (forced (h (good_half (of_halves a b)) (good_half (of_halves c d))) (h (faulty_half (of_halves a b)) (faulty_half (of_halves c d))))
seven_combined h a b c d x y g f e k m n = rw (m, n, e, k) (combined (λ g f. of_halves g (forced g f)) h a b c d)
