use Rattle.dictcol.proofs.shards.folder.write_files.Goals as goal

-- no bytes of a file are known
pub write_lines-requires : goal.write_lines-requires
write_lines-requires c = c.new-shards.ensures.none (λ known. let none = known c.in_ok-order.order.output in cc)
