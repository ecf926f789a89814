-- What stands at a place of a list that grew, was changed at one place, or was changed throughout.
use Rattle.std.proofs.Common.{◌≡◌, ℕ, ◌⊎◌, List, [], ◌∷◌, ◌++◌, map, length, set, Some, None, Option, sym, refl, ◌∙◌, arith}
use Rattle.std.proofs.lemmas.Grind.{common_steps}
use Rattle.std.proofs.lemmas.Option.{slice_get-map, slice_get_within, slice_get-get_or, get_or_from_slice_get, slice_get_cases}
use Rattle.std.specs.Option.{option_map}
use Rattle.std.specs.List.{slice_get}

module _ {X : Type 0} where
  pub nth_push_old : (xs : List X) (y : X) (n : ℕ) (e : X) → slice_get xs n ≡ Some e → slice_get (xs ++ (y ∷ [])) n ≡ Some e
  nth_push_old xs y n e h = grind (arith, common_steps, slice_get-get_or (xs ++ (y ∷ [])) n e, slice_get_within xs n e h, get_or_from_slice_get xs n e e h)

  pub nth_push_new : (xs : List X) (y : X) (n : ℕ) (e : X) → slice_get (xs ++ (y ∷ [])) n ≡ Some e → (slice_get xs n ≡ Some e) ⊎ ((n ≡ length xs) × (e ≡ y))
  nth_push_new xs y n e h =
      grind (
        arith,
        common_steps,
        slice_get_cases xs n,
        slice_get_within (xs ++ (y ∷ [])) n e h,
        get_or_from_slice_get (xs ++ (y ∷ [])) n e y h,
        slice_get-get_or xs n y,
      )

  pub nth_set_same : (xs : List X) (n : ℕ) (x y : X) → slice_get xs n ≡ Some x → slice_get (set xs n y) n ≡ Some y
  nth_set_same xs n x y h = grind (arith, common_steps, slice_get-get_or (set xs n y) n x, slice_get_within xs n x h)

  pub nth_set_other : (xs : List X) (i n : ℕ) (y : X) → (n ≡ i → ⊥) → slice_get (set xs i y) n ≡ slice_get xs n
  nth_set_other xs i n y ne = grind (arith, common_steps, slice_get_cases (set xs i y) n, slice_get_cases xs n)

  -- what stands in a list that was changed throughout came from what stood there
  pub nth_map_from : (f : X → X) (xs : List X) (n : ℕ) (e : X) → slice_get (map f xs) n ≡ Some e → (x : X) × (slice_get xs n ≡ Some x) × (e ≡ f x)
  nth_map_from f xs n e h = go (slice_get xs n) refl (sym (slice_get-map f xs n) ∙ h)
    where
      go : (o : Option X) → slice_get xs n ≡ o → option_map f o ≡ Some e → (x : X) × (slice_get xs n ≡ Some x) × (e ≡ f x)
      go None is h = cc
      go (Some x) is h = (x, is, cc)
