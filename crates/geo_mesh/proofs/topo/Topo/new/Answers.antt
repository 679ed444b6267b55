use Rattle.std.proofs.Common.{◌≤◌, ap, refl, arith, rules}
use Rattle.geo_mesh.proofs.Orderly.{orderly-first, first_ranks}
use Rattle.geo_mesh.proofs.topo.Topo.new.Goals as goal

-- DEV and TASTE alone, with rank 1 and nothing below: all is empty but for their two rows, names and marks
pub invariant_of-result : goal.invariant_of-result
invariant_of-result g c =
    let few : c.reserve.new.self.spare ≤ 2 = rw c.new-geoms.ensures at c.reserve.ensures.no_more in
    rw (
      c.insert-2.ensures.inserted,
      c.insert.ensures.inserted,
      c.new_cell-2.ensures,
      c.new_cell.ensures,
      c.fixed_name-second.ensures,
      c.fixed_name-first.ensures,
      c.reserve.ensures.values_stay,
      c.new-geoms.ensures,
      c.new.ensures,
      c.new-2.ensures,
      c.add_geom-2.ensures,
      c.add_geom.ensures,
      c.reserve-2.ensures.same,
      c.new-index.ensures,
    )
    (record {
      tables =
          record {
            count = record { counted = refl; few = omega arith };
            indexed = record {
              offered = record { parents = refl; children = refl; next_parent = refl; next_child = refl };
              owned = record { parents = refl; children = refl; next_parent = refl; next_child = refl };
              attached = record { parents = refl; children = refl; next_parent = refl; next_child = refl };
              above = record { parents = refl; children = refl; next_parent = refl; next_child = refl };
            };
            room = record {
              offered_parents = omega arith;
              offered_children = omega arith;
              owned_parents = omega arith;
              owned_children = omega arith;
              attached_parents = omega arith;
              attached_children = omega arith;
              above_parents = omega arith;
              above_children = omega arith;
            };
            names_are = c.new-3.ensures;
            names_room = search rules;
            notes = record {
              risen = ap (λ m. m.rows) c.in_ok-notes.ensures.risen;
              fallen = ap (λ m. m.rows) c.in_ok-notes.ensures.fallen;
              named =
                  rw (c.fixed_name-second.ensures, c.fixed_name-first.ensures) at
                  (ap (λ m. m.rows) c.in_ok-notes.ensures.named);
              risen_next = ap (λ m. m.next) c.in_ok-notes.ensures.risen;
              fallen_next = ap (λ m. m.next) c.in_ok-notes.ensures.fallen;
              going_next = ap (λ m. m.next) c.in_ok-notes.ensures.going;
              named_next = ap (λ m. m.next) c.in_ok-notes.ensures.named;
              room = record {
                risen = omega arith;
                fallen = omega arith;
                going = omega (arith, few);
                named = omega (arith, few);
              };
            };
          };
      ranks =
          record {
            count = record { counted = refl; few = omega arith };
            standing = record { local = λ x. first_ranks x; low = refl; owned = tt; attached = tt };
          };
      graph = orderly-first c.args.dev c.args.taste;
      going = ap (λ m. m.rows) c.in_ok-notes.ensures.going;
    })
