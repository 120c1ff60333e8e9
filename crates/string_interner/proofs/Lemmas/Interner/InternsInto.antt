-- How an interner changes where a text is interned: it is known, or refused, or stored.
use Rattle.std.proofs.Common.{◌≡◌, ℕ, ◌+◌, List, length, refl, arith, Option, Some, None, Ok, Err}
use Rattle.std.specs.Prelude.{MatchOption, IsSome, IsErrOf, OnErr, Result, option_and_then}
use Rattle.string_interner.specs.Text.{Text, first}
use Rattle.string_interner.specs.Backend.{Appends, IsValidList, UsesRoom}
use Rattle.string_interner.specs.SlotRule.{SlotRule, GrowsIfFull}
use Rattle.string_interner.specs.Interner.{IsInternerList, InternerContents, Interns, InternsInto, entry_symbol, known_symbol}
use Rattle.string_interner.proofs.Lemmas.Index.SlotRule.{GrowsIfFull-same}
use Rattle.string_interner.proofs.Lemmas.Interner.StandsFor.{keeps-same, keeps-interned, distinct-interned, stands-interned}
use Rattle.string_interner.specs.declared.backend.InternError.{InternError}
use Rattle.string_interner.specs.declared.backend.InternError.TheVariants.{NoSymbol, Memory}
use Rattle.string_interner.specs.Numbering.{Numbering}

module _ {S : Type 0} (numbering : Numbering S) where
  -- a known text answers its symbol
  Interns-known : (texts : List Text) (text : Text) (symbol : S) → known_symbol numbering texts text ≡ Some symbol → Interns numbering texts text (Ok symbol) texts
  Interns-known texts text symbol e = of (first texts text) e
    where
      of : (o : Option ℕ) → option_and_then (entry_symbol numbering texts) o ≡ Some symbol
          → MatchOption o (Appends numbering.symbol_of numbering.place texts text (Ok symbol) texts) (λ i. (entry_symbol numbering texts i ≡ Some symbol) × (texts ≡ texts))
      of None e = absurd (cc)
      of (Some i) e = (e, refl)

  -- a new text is put last
  Interns-new : (old : List Text) (text : Text) (outcome : Result S InternError) (new : List Text) → first old text ≡ None → Appends numbering.symbol_of numbering.place old text outcome new → Interns numbering old text outcome new
  Interns-new old text outcome new e put = rw e put

  -- where the next place has a symbol, no text is refused for want of one
  has_symbol : (old : List Text) (text : Text) (outcome : Result S InternError) (new : List Text) → IsSome (numbering.symbol_of (numbering.place old)) → Appends numbering.symbol_of numbering.place old text outcome new → IsErrOf outcome NoSymbol → ⊥
  has_symbol old text (Ok symbol) new some put is = cc
  has_symbol old text (Err NoSymbol) new some put is = let none = put.0 in cc
  has_symbol old text (Err (Memory e)) new some put is = cc

  module _ (rule : SlotRule) where
    -- nothing changes where the text is known
    pub into-known : (old : InternerContents) (count : ℕ) (text : Text) (symbol : S) → IsInternerList numbering old.texts → known_symbol numbering old.texts text ≡ Some symbol → count ≡ old.slot_count
        → InternsInto numbering rule old text (Ok symbol) (record old { slot_count = count })
    into-known old count text symbol are e same = let interns = Interns-known old.texts text symbol e in rw same (record {
      interns = interns;
      texts = are;
      stands = stands-interned numbering old.texts text (Ok symbol) old.texts interns;
      keeps = keeps-same numbering old.texts old.texts refl;
      known = λ h. refl;
      no_symbol = λ h. refl;
      buckets = tt;
      room = record { granted = λ h c. refl; spent = omega arith; unspent = tt };
      slots = GrowsIfFull-same rule (length old.texts) old.slot_count;
    })

    -- a new text is refused before it is stored
    pub into-refused : (old : InternerContents) (count : ℕ) (text : Text) (error : InternError) → IsInternerList numbering old.texts → first old.texts text ≡ None → Appends numbering.symbol_of numbering.place old.texts text (Err error) old.texts
        → (IsSome (numbering.symbol_of (numbering.place old.texts)) → rule.holds old.slot_count (length old.texts + 1) → ⊥) → count ≡ old.slot_count
        → InternsInto numbering rule old text (Err error) (record old { slot_count = count })
    into-refused old count text error are is_new put no_room same = rw same (record {
      interns = Interns-new old.texts text (Err error) old.texts is_new put;
      texts = are;
      stands = tt;
      keeps = keeps-same numbering old.texts old.texts refl;
      known = λ h. refl;
      no_symbol = λ h. refl;
      buckets = refl;
      room = record { granted = λ h c. absurd (no_room h.0 h.1); spent = tt; unspent = omega arith };
      slots = GrowsIfFull-same rule (length old.texts) old.slot_count;
    })

    -- for want of a symbol
    pub into-unnamed : (old : InternerContents) (text : Text) → IsInternerList numbering old.texts → first old.texts text ≡ None → numbering.symbol_of (numbering.place old.texts) ≡ None → InternsInto numbering rule old text (Err NoSymbol) old
    into-unnamed old text are is_new none = into-refused old old.slot_count text NoSymbol are is_new (none, refl) (λ some h. absurd (cc)) refl

    -- a new text for which there is a symbol is stored, or memory is refused
    pub into-stored : (old new : InternerContents) (text : Text) (stored outcome : Result S InternError) → outcome ≡ stored → IsInternerList numbering old.texts → IsValidList numbering.symbol_of numbering.place new.texts → first old.texts text ≡ None → IsSome (numbering.symbol_of (numbering.place old.texts))
        → Appends numbering.symbol_of numbering.place old.texts text stored new.texts → OnErr stored (new.buckets ≡ old.buckets)
        → UsesRoom (IsSome (numbering.symbol_of (numbering.place old.texts))) (numbering.cost text) old.room new.room stored → GrowsIfFull rule (length old.texts) old.slot_count new.slot_count
        → InternsInto numbering rule old text outcome new
    into-stored old new text stored outcome e are kept is_new some put buckets room slots = let interns = Interns-new old.texts text stored new.texts is_new put in rw e (record {
      interns = interns;
      texts = record { distinct = distinct-interned numbering old.texts text stored new.texts interns are.distinct; valid = kept };
      stands = stands-interned numbering old.texts text stored new.texts interns;
      keeps = keeps-interned numbering old.texts text stored new.texts interns;
      known = λ h. absurd (cc);
      no_symbol = λ h. absurd (has_symbol old.texts text stored new.texts some put h);
      buckets = buckets;
      room = record { granted = λ h c. room.granted h.0 c; spent = room.spent; unspent = room.unspent };
      slots = slots;
    })
