use Rattle.std.proofs.Common.{◌≡◌, ◌++◌, ◌∷◌, [], sym, ap, subst, ◌∙◌, rules, append_assoc, append-nil}
use Rattle.std.specs.Io.KnownBytes.{Appends}
use Rattle.std.proofs.KnownBytes.{Appends-trans}
use Rattle.string_interner.proofs.Lemmas.Backend.Entries.{first_entry, no_entry}
use Rattle.dictcol.specs.Lines.{text_of_ended}
use Rattle.dictcol.specs.Writes.{Puts}
use Rattle.dictcol.proofs.PlainColumns.{appends-kept, ended-more, in-any-case}
use Rattle.dictcol.proofs.Puts.{puts-all, puts-held, puts-nothing}
use Rattle.dictcol.proofs.plain.dictionary.write_file.Goals as goal

pub loop-text-init : goal.loop-text-init
loop-text-init g c =
    let ahead : c.args.texts.now.texts ≡ c.into_iter-text-iterator.result.ahead = search rules in
    ([], ahead, puts-nothing _ _)

pub loop-text-preserved : goal.loop-text-preserved
loop-text-preserved g c =
    let first = first_entry g.B.Store.numbering _ _ _ _ _ _ c.in-Some.ensures.steps in
    let inv = c.loop-text.invariant in
    let text = c.in-Some.text.now in
    let more = text_of_ended inv.0 [] in
    let line : Puts (g.W.Write.contents c.loop-text.output) c.loop-text.block (g.W.Write.contents c.append.new.output) c.append.new.self c.in-Some.text.now =
    subst (λ bytes. Puts (g.W.Write.contents c.loop-text.output) c.loop-text.block (g.W.Write.contents c.append.new.output) c.append.new.self bytes) c.as_bytes.ensures.value c.in_ok-append.ensures.puts in
    let start = g.W.Write.contents c.args.output.now in (
      inv.0 ++ text ∷ [],
      inv.1 ∙ ap (λ ahead. inv.0 ++ ahead) first ∙ sym (append_assoc inv.0 (text ∷ []) c.next.new.self.ahead),
      subst (Puts start c.args.block.now (g.W.Write.contents c.append.new.output) c.put.new.self) (sym (ended-more inv.0 text))
          (Appends-trans _ _ _ _ (10 ∷ []) (Appends-trans _ _ _ more text inv.2 line) (puts-held _ _ _ _ c.put.ensures)),
    )

pub returns-clause-written : goal.returns-clause-written
returns-clause-written g c =
    let none = no_entry g.B.Store.numbering _ _ c.in-None.ensures.steps.0 in
    let inv = c.loop-text.invariant in
    let all : c.args.texts.now.texts ≡ inv.0 = inv.1 ∙ ap (λ ahead. inv.0 ++ ahead) none ∙ append-nil inv.0 in
    let start = g.W.Write.contents c.args.output.now in
    let written = g.W.Write.contents c.write.new.output in
    let puts = puts-all _ _ _ _ _ c.requires c.in_ok-write.ensures.empty (Appends-trans _ _ _ _ [] inv.2 c.in_ok-write.ensures.puts) in
    let text = text_of_ended c.args.texts.now.texts [] in
    in-any-case c.flush.result (
    appends-kept start written (g.W.Write.contents c.flush.new.self) text (subst (Appends start written) (append-nil (text_of_ended inv.0 []) ∙ ap (λ texts. text_of_ended texts []) (sym all)) puts) c.flush.ensures.bytes)
