-- The parts of a list, of which the last was taken off.
use Rattle.std.proofs.Common.{◌≡◌, ◌≢◌, ℕ, List, [], ◌∷◌, ◌++◌, length, Bor, refl, sym, ap, ◌∙◌, append-nil}
use Rattle.std.specs.List.{slice_split}
use Rattle.string_interner.specs.Text.{Text}
use Rattle.string_interner.specs.Extend.{texts_of}
use Rattle.dictcol.specs.Names.{is_zero, trim_end, names_of}
use Rattle.dictcol.proofs.LinesOf.{texts_of-append}

trim-ended : (xs : List Text) → trim_end (xs ++ [] ∷ []) ≡ xs
trim-ended [] = refl
trim-ended ([] ∷ []) = refl
trim-ended ([] ∷ y ∷ ys) = ap (λ zs. [] ∷ zs) (trim-ended (y ∷ ys))
trim-ended ((b ∷ bs) ∷ ys) = ap (λ zs. (b ∷ bs) ∷ zs) (trim-ended ys)

trim-kept : (xs : List Text) (b : ℕ) (bs : Text) → trim_end (xs ++ (b ∷ bs) ∷ []) ≡ xs ++ (b ∷ bs) ∷ []
trim-kept [] b bs = refl
trim-kept ([] ∷ []) b bs = refl
trim-kept ([] ∷ y ∷ ys) b bs = ap (λ zs. [] ∷ zs) (trim-kept (y ∷ ys) b bs)
trim-kept ((c ∷ cs) ∷ ys) b bs = ap (λ zs. (c ∷ cs) ∷ zs) (trim-kept ys b bs)

module _ (list : Text) (parts rest : List (Bor Text)) (of_list : texts_of parts ≡ slice_split is_zero list) where
  split : (name : Bor Text) → parts ≡ rest ++ name ∷ [] → texts_of rest ++ name.now ∷ [] ≡ slice_split is_zero list
  split name popped = sym (texts_of-append rest (name ∷ [])) ∙ ap texts_of (sym popped) ∙ of_list

  -- an empty one stays away
  pub last-dropped : (name : Bor Text) → parts ≡ rest ++ name ∷ [] → length name.now ≡ 0 → texts_of rest ≡ names_of list
  last-dropped name popped empty = of name.now empty (split name popped)
    where
      of : (text : Text) → length text ≡ 0 → texts_of rest ++ text ∷ [] ≡ slice_split is_zero list → texts_of rest ≡ names_of list
      of [] empty whole = sym (ap trim_end (sym whole) ∙ trim-ended (texts_of rest))
      of (b ∷ bs) empty whole = absurd (cc)

  -- another is put back
  pub last-kept : (name : Bor Text) (names : List (Bor Text)) → parts ≡ rest ++ name ∷ [] → length name.now ≢ 0 → names ≡ rest ++ name ∷ [] → texts_of names ≡ names_of list
  last-kept name names popped some pushed =
      ap texts_of pushed ∙ texts_of-append rest (name ∷ []) ∙ of name.now some (split name popped)
    where
      of : (text : Text) → length text ≢ 0 → texts_of rest ++ text ∷ [] ≡ slice_split is_zero list → texts_of rest ++ text ∷ [] ≡ names_of list
      of [] some whole = absurd (some refl)
      of (b ∷ bs) some whole = sym (ap trim_end (sym whole) ∙ trim-kept (texts_of rest) b bs)

  -- there is none
  pub none-left : length parts ≡ 0 → parts ≡ rest ++ [] → texts_of rest ≡ names_of list
  none-left none popped = ap texts_of (sym (append-nil rest) ∙ sym popped) ∙ of parts none of_list
    where
      of : (parts : List (Bor Text)) → length parts ≡ 0 → texts_of parts ≡ slice_split is_zero list → texts_of parts ≡ names_of list
      of [] none whole = ap trim_end whole
      of (part ∷ parts) none whole = absurd (cc)
