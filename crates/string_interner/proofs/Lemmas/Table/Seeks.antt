-- What a probe found, and by how many looks, is what a table promises of a look-up.
use Rattle.std.proofs.Common.{◌≡◌, ℕ, ◌+◌, ◌<◌, ◌≤◌, ◌%◌, Option, length, ap, ◌∙◌, arith}
use Rattle.string_interner.specs.Text.{Text}
use Rattle.string_interner.specs.Slots.{LooksContents, first_passing, probe_cluster}
use Rattle.string_interner.specs.Index.{has_text}
use Rattle.string_interner.specs.Layout.{FitsCode, IsLayout, SlotLayout}
use Rattle.string_interner.specs.Table.{Seeks, TableContents, slot_count}
use Rattle.string_interner.proofs.Lemmas.Index.LookUp.{Fits-find}
use Rattle.string_interner.proofs.Lemmas.Index.ProbeCluster.{cluster-le}
use Rattle.string_interner.proofs.Lemmas.Index.Slots.{cluster_within}
use Rattle.string_interner.proofs.Lemmas.Table.IsTable.{Fits-of}

pub seeks : {S L B : Type 0} (layout : SlotLayout S L) → IsLayout layout → (entry : S → Option Text) (table : TableContents L) (code : ℕ) (text : Text) (old new : LooksContents B) (found : Option S)
    → FitsCode layout entry table.slots code text → 0 < slot_count layout table
    → found ≡ first_passing (has_text entry text) (probe_cluster (layout.slots table.slots) code)
    → new.backend ≡ old.backend → old.count ≤ new.count → new.count ≤ old.count + length (probe_cluster (layout.slots table.slots) code) + 1
    → Seeks layout entry table code text old new found
seeks layout laws entry table code text old new found fits some is backend counts looks =
    let slots = layout.slots table.slots in let within = cluster_within slots (code % length slots) in
    record {
      found_is = is ∙ ap (λ n. first_passing (has_text entry text) (probe_cluster slots n)) fits.1.1 ∙ Fits-find _ _ _ (Fits-of layout laws _ _ table.slots fits.1.0) text;
      looks = record {
        backend = backend;
        counts = counts;
        cluster = λ f r. let le = cluster-le slots (code % length slots) f (omega arith) r in omega arith;
        at_most = omega arith;
        no_slots = λ none. absurd (omega arith);
      };
    }
