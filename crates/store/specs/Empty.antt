-- An emptied store: whatever stood in its parts, if they are as long as stated it is not bad, it is marked, and nothing is in it.
use Rattle.std.specs.Prelude.{ℕ, ◌+◌, ◌<◌, ◌≡◌, true, get_or, None}
use Rattle.std.proofs.Math.Path.{refl}
use Rattle.std.proofs.Common.{arith, length-set, get_or-set_same}
use Rattle.std.proofs.Math.ListN.{length}
use Rattle.cells.specs.Cells.{Id, first_where, row_put}
use Rattle.cells.specs.Rows.{put_length, put_at}
use Rattle.store.specs.declared.sound.Counts.{Counts}
use Rattle.store.specs.Tables.{Store, used, marked, number_of, place_of, emptied}
use Rattle.store.specs.Sound.{nodes_columns, links_columns}
use Rattle.store.specs.Facts.{Lengths, Sound}
use Rattle.store.specs.Columns.{Each}
use Rattle.store.specs.Views.{head_other, counted}
use Rattle.store.specs.Kept.{sound_by, nodes_each, links_each}

abbrev pub none_used : Counts
none_used = record { names = 0; entries = 0; spent = 0; pairs = 0; waiting = 0; accepted = 0 }

module _ (t : Store) (l : Lengths t) where
  -- each of the first six cells of the head
  count_zero : (j : ℕ) → j < 6 → get_or (row_put t.head 0 (λ j. 0) 6) (0 + j) 0 ≡ 0
  count_zero j h = put_at t.head 0 (λ j. 0) 6 j h (omega (arith, l.head_long))

  pub emptied_used : used (emptied t) ≡ none_used
  unfolding emptied
  emptied_used =
      let h = row_put t.head 0 (λ j. 0) 6 in
      rw (
        head_other h 6 0 1 refl,
        head_other h 6 1 1 refl,
        head_other h 6 2 1 refl,
        head_other h 6 3 1 refl,
        head_other h 6 4 1 refl,
        head_other h 6 5 1 refl,
        count_zero 0 (omega arith),
        count_zero 1 (omega arith),
        count_zero 2 (omega arith),
        count_zero 3 (omega arith),
        count_zero 4 (omega arith),
        count_zero 5 (omega arith),
      )

  emptied_lengths : Lengths (emptied t)
  unfolding emptied
  emptied_lengths =
      record {
        head_long = simp (length-set, put_length) l.head_long;
        keys_long = l.keys_long;
        rests_long = l.rests_long;
        nodes_long = l.nodes_long;
        links_long = l.links_long;
        nonces_long = l.nonces_long;
        tips_long = l.tips_long;
      }

  pub emptied_sound : Sound (emptied t)
  unfolding nodes_columns links_columns Each
  emptied_sound =
      sound_by (emptied t) none_used emptied_used emptied_lengths (omega arith)
      (nodes_each (emptied t).nodes none_used (omega arith))
      (links_each (emptied t).links none_used (omega arith))

  pub emptied_marked : marked (emptied t) ≡ true
  unfolding emptied
  emptied_marked =
      let h : 6 < length (row_put t.head 0 (λ j. 0) 6) = simp put_length (omega (arith, l.head_long)) in
      rw (get_or-set_same (row_put t.head 0 (λ j. 0) 6) 6 1 0 h)

  -- no id has a name, and no nullifier is there
  pub emptied_number : (x : Id) → number_of (emptied t) x ≡ None
  unfolding first_where
  emptied_number x = rw (counted (emptied t) none_used emptied_used).names_are

  pub emptied_place : (z : Id) → place_of (emptied t) z ≡ None
  unfolding first_where
  emptied_place z = rw (counted (emptied t) none_used emptied_used).spent_are
