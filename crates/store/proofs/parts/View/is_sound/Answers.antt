-- The check ends at the first of lengths and counts that is wrong, and else its answer is that of the columns.
use Rattle.store.specs.Parts.{store_seen}
use Rattle.store.specs.Check.{wrong_lengths, wrong_counts, the_columns, lengths_here, within_here}
use Rattle.store.proofs.parts.View.is_sound.Goals as goal

pub returns-then-not-lengths_right : goal.returns-then-not-lengths_right
returns-then-not-lengths_right c = wrong_lengths (store_seen c.args.self.now) _ c.lengths_right.ensures c.if-not-lengths_right.true

pub returns-then-not-right : goal.returns-then-not-right
returns-then-not-right c =
    wrong_counts (store_seen c.args.self.now) _ c.lengths_right.ensures c.if-not-lengths_right.false _ c.counts-u.ensures _ c.right.ensures c.if-not-right.true

pub nodes_right-requires : goal.nodes_right-requires
nodes_right-requires c =
    ((lengths_here (store_seen c.args.self.now) _ c.lengths_right.ensures c.if-not-lengths_right.false).nodes_long, within_here _ _ c.right.ensures c.if-not-right.false)

pub links_right-requires : goal.links_right-requires
links_right-requires c =
    ((lengths_here (store_seen c.args.self.now) _ c.lengths_right.ensures c.if-not-lengths_right.false).links_long, within_here _ _ c.right.ensures c.if-not-right.false)

pub returns : goal.returns
returns c =
    the_columns (store_seen c.args.self.now) _ c.lengths_right.ensures c.if-not-lengths_right.false _ c.counts-u.ensures _ c.right.ensures
    _ _ c.if-not-right.false c.nodes_right.ensures c.links_right.ensures
