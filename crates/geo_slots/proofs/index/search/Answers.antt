use Rattle.std.proofs.Common.{nat_lt, rules}
use Rattle.std.proofs.lemmas.List.Sorted.{IsPartitionPoint-from_clause, IsPartitionedBy-ltb}
use Rattle.geo_slots.proofs.PlaceLemmas.{numbers_rise, gap_found}
use Rattle.geo_slots.proofs.index.search.Goals as goal

pub returns-else-stands_at : goal.returns-else-stands_at
returns-else-stands_at c =
    let parted = IsPartitionedBy-ltb (λ e. e.0) c.args.index.now.pages.items c.args.page
    (numbers_rise 0 c.args.index.now.end c.args.index.now.pages.items c.requires.rising) in
    let point = IsPartitionPoint-from_clause (λ e. nat_lt e.0 c.args.page) c.args.index.now.pages.items
    c.partition_point-at.result c.partition_point-at.ensures.partitioned parted (λ a r q k. search rules) in
    gap_found c.args.index.now.pages.items c.args.page c.partition_point-at.result c.args.index.now.end
    c.requires.rising point (c.stands_at.ensures.not_there c.if-stands_at.false)
