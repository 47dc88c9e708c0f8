-- The store that stands in seven lent parts.
use Rattle.std.specs.Prelude.{◌≡◌, refl}
use Rattle.std.proofs.Common.{◌∙◌}
use Rattle.store.specs.Tables.{Store, store}
use Rattle.store.specs.declared.parts.Parts.{Parts}
use Rattle.store.specs.declared.parts.View.{View}

-- what the parts hold
abbrev pub store_in : Parts → Store
store_in p = store p.head.now p.keys.now p.rests.now p.nodes.now p.links.now p.nonces.now p.tips.now

abbrev pub store_seen : View → Store
store_seen v = store v.head.now v.keys.now v.rests.now v.nodes.now v.links.now v.nonces.now v.tips.now

-- a call hands the caller back the very slices that were lent, so what it left in the parts is what the caller's slices hold
pub record SameSlices (before after : Parts) : Type 0 where
  pub head : after.head.ghost_name ≡ before.head.ghost_name
  pub keys : after.keys.ghost_name ≡ before.keys.ghost_name
  pub rests : after.rests.ghost_name ≡ before.rests.ghost_name
  pub nodes : after.nodes.ghost_name ≡ before.nodes.ghost_name
  pub links : after.links.ghost_name ≡ before.links.ghost_name
  pub nonces : after.nonces.ghost_name ≡ before.nonces.ghost_name
  pub tips : after.tips.ghost_name ≡ before.tips.ghost_name

pub same_start : (p : Parts) → SameSlices p p
same_start p = record { head = refl; keys = refl; rests = refl; nodes = refl; links = refl; nonces = refl; tips = refl }

-- one call after another
pub same_then : {p q r : Parts} → SameSlices p q → SameSlices q r → SameSlices p r
same_then a b =
    record {
      head = b.head ∙ a.head;
      keys = b.keys ∙ a.keys;
      rests = b.rests ∙ a.rests;
      nodes = b.nodes ∙ a.nodes;
      links = b.links ∙ a.links;
      nonces = b.nonces ∙ a.nonces;
      tips = b.tips ∙ a.tips;
    }
