use Rattle.std.proofs.Common.{◌≡◌, ℕ, List, ◌++◌, Option, refl, sym, subst, arith}
use Rattle.std.proofs.KnownBytes.{Consumes-nil, Consumes-trans, Consumes-whole}
use Rattle.std.specs.Io.KnownBytes.{Consumes}
use Rattle.dictcol.proofs.input.whole.read_whole.Goals as goal

-- what was read before, and what came
read-on : (input left now : Option (List ℕ)) (old new more : List ℕ) → Consumes input left old → Consumes left now more → new ≡ old ++ more → Consumes input now new
read-on input left now old new more so_far came is = subst (Consumes input now) (sym is) (Consumes-trans input left now old more so_far came)

pub loop-init : goal.loop-init
loop-init g c = record {
  read = rw c.new-bytes.ensures.items (Consumes-nil (g.R.Read.remaining c.args.input.now));
  room = omega (arith, c.in-Ok.ensures.len);
}

pub returns-then-branch-clause-whole : goal.returns-then-branch-clause-whole
returns-then-branch-clause-whole g c =
    let input = g.R.Read.remaining c.args.input.now in
    let left = g.R.Read.remaining c.loop.input in
    let now = g.R.Read.remaining c.read_more.new.input in
    let bytes = c.read_more.new.bytes.items in
    let more = c.in_ok-read_more.ensures.more in
    let all = read-on input left now c.loop.bytes.items bytes more.0 c.loop.invariant.read more.2 more.1 in
    Consumes-whole input now bytes (λ all. bytes ≡ all) all (c.in_ok-read_more.ensures.end c.if-branch.true) refl

pub loop-preserved : goal.loop-preserved
loop-preserved g c =
    let input = g.R.Read.remaining c.args.input.now in
    let left = g.R.Read.remaining c.loop.input in
    let now = g.R.Read.remaining c.read_more.new.input in
    let more = c.in_ok-read_more.ensures.more in
    record {
      read = read-on input left now c.loop.bytes.items c.read_more.new.bytes.items more.0 c.loop.invariant.read more.2 more.1;
      room = omega (arith, c.loop.invariant.room, c.in_ok-read_more.ensures.block);
    }
