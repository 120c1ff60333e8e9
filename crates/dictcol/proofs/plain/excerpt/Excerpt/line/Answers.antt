use Rattle.std.proofs.Common.{rules, ◌≡◌, ◌+◌, ◌<◌, [], Some, length, get_or, ap, arith}
use Rattle.std.specs.Prelude.{slice_get}
use Rattle.std.proofs.lemmas.List.{get_or_read}
use Rattle.dictcol.proofs.LineBounds.{IsBetween}
use Rattle.dictcol.proofs.Excerpt.{line-found, place-within}
use Rattle.dictcol.proofs.plain.excerpt.Excerpt.line.Goals as goal
use Rattle.dictcol.proofs.plain.excerpt.Excerpt.line.Goals.{After-find_place-place}

placed : (c : After-find_place-place) → slice_get c.args.self.now.numbers.items c.find_place-place.result ≡ Some c.args.code
placed c = search rules

within : (c : After-find_place-place) → c.find_place-place.result + 1 < length c.args.self.now.bounds.items
within c = place-within _ _ c.requires.1 c.args.code c.find_place-place.result c.requires.2 (placed c)

found : (c : After-find_place-place) → IsBetween c.args.self.now.text.items (get_or c.requires.0 c.args.code []) (get_or c.args.self.now.bounds.items c.find_place-place.result 0) (get_or c.args.self.now.bounds.items (c.find_place-place.result + 1) 0)
found c = line-found _ _ c.requires.1 c.args.code c.find_place-place.result c.requires.2 (placed c)

pub index-requires : goal.index-requires
index-requires c = omega (arith, within (goal.at.index-requires c).After-find_place-place, c.args.self.now.bounds.ok.0)

pub index-requires-2 : goal.index-requires-2
index-requires-2 c = omega (arith, within (goal.at.index-requires-2 c).After-find_place-place, c.args.self.now.bounds.ok.0)

pub slice_bounds-result-count : goal.slice_bounds-result-count
slice_bounds-result-count c =
    let at = (goal.at.slice_bounds-result-count c).After-find_place-place in
    let begin = get_or_read c.args.self.now.bounds.items _ _ (omega (arith, within at)) c.index.ensures 0 in
    let end = get_or_read c.args.self.now.bounds.items _ _ (within at) c.index-2.ensures 0 in
    omega (arith, begin, end, (found at).ordered)

pub slice_bounds-result-start : goal.slice_bounds-result-start
slice_bounds-result-start c =
    let at = (goal.at.slice_bounds-result-start c).After-find_place-place in
    let begin = get_or_read c.args.self.now.bounds.items _ _ (omega (arith, within at)) c.index.ensures 0 in
    let end = get_or_read c.args.self.now.bounds.items _ _ (within at) c.index-2.ensures 0 in
    omega (arith, begin, end, (found at).ordered)

pub slice_bounds-result-end : goal.slice_bounds-result-end
slice_bounds-result-end c =
    let at = (goal.at.slice_bounds-result-end c).After-find_place-place in
    let end = get_or_read c.args.self.now.bounds.items _ _ (within at) c.index-2.ensures 0 in
    omega (arith, end, (found at).within, ap length c.deref-2.ensures.value)

pub returns : goal.returns
returns c = λ lines has.
    let at = (goal.at.returns c).After-find_place-place in
    let begin = get_or_read c.args.self.now.bounds.items _ _ (omega (arith, within at)) c.index.ensures 0 in
    let end = get_or_read c.args.self.now.bounds.items _ _ (within at) c.index-2.ensures 0 in
    let inside : c.args.code < length lines = omega (arith, c.requires.2, c.requires.1.total_is, has.total_is) in
    let line = (line-found _ lines has c.args.code c.find_place-place.result inside (placed at)).line_is in
    rw (c.deref-2.ensures.value, begin, end) line
