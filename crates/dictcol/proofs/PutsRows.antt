-- Texts that were interned together behind lines, whose dictionary was there.
use Rattle.std.proofs.Common.{◌≡◌, ℕ, Bor, List, [], ◌∷◌, ◌++◌, length, Ok, Err, sym, ap, subst, ◌∙◌}
use Rattle.std.specs.Prelude.{slice_get, Some}
use Rattle.std.proofs.lemmas.List.{append_assoc, length-map, map-append}
use Rattle.std.proofs.lemmas.Slice.Zip.{AllZip-long}
use Rattle.string_interner.specs.Text.{Text}
use Rattle.string_interner.specs.Numbering.{Numbering}
use Rattle.string_interner.specs.Extend.{fresh, texts_of}
use Rattle.string_interner.specs.declared.backend.InternError.{InternError}
use Rattle.string_interner.proofs.Lemmas.Interner.Extends.{fresh-append}
use Rattle.string_column.specs.Ahead.{PutsRows}
use Rattle.string_column.specs.Column.{AreCodes, dictionary_of}
use Rattle.string_column.specs.Entries.{LacksSymbol}
use Rattle.dictcol.specs.Fault.{IsTakeFault, intern_fault}
use Rattle.dictcol.specs.TooMany.{HasRefused, LacksLine}
use Rattle.dictcol.proofs.TooMany.{refusal-fault, take-weaker}

module _ {S : Type 0} (numbering : Numbering S) (block : List (Bor Text)) (old new : List Text) (before codes : List ℕ) where
  -- all of them, by their codes
  puts-coded : PutsRows numbering block (old, before) (Ok tt) (new, codes) → before ≡ [] → AreCodes new codes (texts_of block)
  puts-coded puts none =
      let all : block ≡ puts.0 = puts.5 in
      let added : codes ≡ puts.1 = puts.3 ∙ ap (λ cs. cs ++ puts.1) none in
      subst (λ cs. AreCodes new cs (texts_of block)) (sym added) (subst (λ ts. AreCodes new puts.1 (texts_of ts)) (sym all) puts.4)

  -- there is a code for each
  pub puts-long : PutsRows numbering block (old, before) (Ok tt) (new, codes) → before ≡ [] → length codes ≡ length block
  puts-long puts none = sym (AllZip-long (λ c r. slice_get new c ≡ Some r) codes (texts_of block) (puts-coded puts none)) ∙ length-map block (λ item. item.now)

  pub puts-grown : PutsRows numbering block (old, before) (Ok tt) (new, codes) → new ≡ old ++ fresh old (texts_of block)
  puts-grown puts =
      let all : block ≡ puts.0 = puts.5 in
      puts.2 ∙ ap (λ ts. old ++ fresh old (texts_of ts)) (sym all)

  module _ (lines : List Text) (is : old ≡ dictionary_of lines) where
    pub puts-dictionary : PutsRows numbering block (old, before) (Ok tt) (new, codes) → new ≡ dictionary_of (lines ++ texts_of block)
    puts-dictionary puts = puts-grown puts ∙ ap (λ ts. ts ++ fresh ts (texts_of block)) is ∙ sym (fresh-append [] lines (texts_of block))

    pub puts-codes : PutsRows numbering block (old, before) (Ok tt) (new, codes) → before ≡ [] → AreCodes (dictionary_of (lines ++ texts_of block)) codes (texts_of block)
    puts-codes puts none = subst (λ entries. AreCodes entries codes (texts_of block)) (puts-dictionary puts) (puts-coded puts none)

    -- one of them is refused
    pub puts-refused : (error : InternError) → PutsRows numbering block (old, before) (Err error) (new, codes) → IsTakeFault (HasRefused (LacksLine numbering) (lines ++ texts_of block)) (intern_fault error)
    puts-refused error puts =
        let taken = texts_of puts.0 in
        let refused = puts.5.0 in
        let rest = puts.5.1.0 in
        let whole : texts_of block ≡ taken ++ refused.now ∷ texts_of rest = ap texts_of puts.5.1.1 ∙ map-append (λ (item : Bor Text). item.now) puts.0 (refused ∷ rest) in
        let grown : new ≡ dictionary_of (lines ++ taken) = puts.2 ∙ ap (λ ts. ts ++ fresh ts taken) is ∙ sym (fresh-append [] lines taken) in
        take-weaker (intern_fault error)
        (λ lacks. (lines ++ taken, refused.now, texts_of rest, ap (λ ls. lines ++ ls) whole ∙ sym (append_assoc lines taken (refused.now ∷ texts_of rest)), lacks))
        (subst (λ entries. IsTakeFault (LacksSymbol numbering entries refused.now) (intern_fault error)) grown (refusal-fault numbering new refused.now error puts.5.2))
