use Rattle.std.proofs.Common.{◌≡◌, [], ◌∷◌, ◌++◌, map, codes, subst, rules}
use Rattle.std.proofs.KnownBytes.{Appends-trans}
use Rattle.std.specs.Io.KnownBytes.{Appends}
use Rattle.json.specs.Print.{escape_byte, quoted, token_text}
use Rattle.json.specs.Token.{boolean}
use Rattle.serde_json.specs.Data.{array}
use Rattle.serde_json.specs.View.{items_of}
use Rattle.serde_json.specs.Written.{compact_text}
use Rattle.string_interner.specs.Extend.{fresh}
use Rattle.string_interner.specs.Json.{json_of_texts, json_of_number}
use Rattle.dictcol.specs.File.{column_file}
use Rattle.dictcol.proofs.IsFileText.{is-file-text, object-in-order}
use Rattle.dictcol.proofs.PlainColumns.{appends-kept, in-any-case}
use Rattle.dictcol.proofs.Puts.{puts-all}
use Rattle.dictcol.proofs.json_form.format.write_object.Goals as goal
use Rattle.dictcol.proofs.json_form.format.write_object.Goals.{then-is_ended, else-is_ended}

pub returns : goal.returns
unfolding escape_byte
returns g c =
    let dictionary : c.dictionary.result.now.texts ≡ fresh [] c.args.lines.now = search rules in
    let numbers = c.codes.result.now.items in
    let texts = rw dictionary at c.in_ok-write_texts.ensures in
    let word : c.if-is_ended.append.now ≡ token_text (boolean c.args.is_ended) = elim c.if-is_ended.branch [ then-is_ended w ↦ search rules | else-is_ended w ↦ search rules ] in
    let ended = rw word at c.in_ok-append-3.ensures.puts in
    let two = Appends-trans _ _ _ _ _ c.in_ok-append.ensures.puts texts in
    let three = Appends-trans _ _ _ _ _ two c.in_ok-append-2.ensures.puts in
    let four = Appends-trans _ _ _ _ _ three ended in
    let five = Appends-trans _ _ _ _ _ four c.in_ok-append-4.ensures.puts in
    let six = Appends-trans _ _ _ _ _ five c.in_ok-write_codes.ensures.puts in
    let seven = Appends-trans _ _ _ _ _ six c.in_ok-append-5.ensures.puts in
    let all = puts-all _ _ _ _ _ c.requires c.in_ok-write.ensures.empty (Appends-trans _ _ _ _ _ seven c.in_ok-write.ensures.puts) in
    let order = object-in-order (quoted (codes "dictionary")) (quoted (codes "final_newline")) (quoted (codes "lines")) (compact_text (json_of_texts (fresh [] c.args.lines.now))) (token_text (boolean c.args.is_ended)) (compact_text (array (items_of (map json_of_number numbers)))) in
    let start = g.W.Write.contents c.args.output.now in
    let written = g.W.Write.contents c.write.new.output in
    let text = compact_text (column_file (fresh [] c.args.lines.now) c.codes.result.now.items c.args.is_ended) ++ 10 ∷ [] in
    in-any-case c.flush.result (
      text,
      is-file-text c.args.lines.now numbers c.args.is_ended c.codes.ensures c.in_ok-write_codes.ensures.small,
      appends-kept start written (g.W.Write.contents c.flush.new.self) text (subst (λ bytes. Appends start written bytes) order all) c.flush.ensures.bytes,
    )
