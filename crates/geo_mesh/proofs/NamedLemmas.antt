-- The first geom of a class and of a name, found among those of the name.
use Rattle.std.specs.Prelude.{◌≡◌, ℕ, ◌+◌, ◌<◌, ◌≤◌, ◌&&◌, nat_le, Bool, true, false, List, [], ◌∷◌, Option, Some, None, map, filter, option_map}
use Rattle.std.proofs.Common.{refl, sym, ◌∙◌, ap, arith}
use Rattle.std.proofs.lemmas.Bool.{eq-eqb, leb-true, le-leb, lt-leb, ne_eqb}
use Rattle.std.proofs.Math.Bool.{and-false}
use Rattle.geo_model.specs.Kind.{Kind}
use Rattle.geo_model.specs.Words.{is_kind, same_name}
use Rattle.geo_slots.proofs.RowLemmas.{IsRising_ends}
use Rattle.geo_slots.specs.Slots.{IsRising, value_at}
use Rattle.geo_names.specs.Names.{first_named}
use Rattle.geo_mesh.specs.declared.records.GeomCell.{GeomCell}
use Rattle.geo_mesh.specs.Rows.{rows_with, first_row}
use Rattle.geo_mesh.specs.Cells.{geom_row}
use Rattle.geo_mesh.specs.Topo.{first_geom}
use Rattle.geo_mesh.specs.Notes.{geom_name}
use Rattle.geo_mesh.specs.Named.{is_of_class, is_of}

-- the number of the first geom of the class and of the name, from a number on
abbrev pub first_number : {C : Type 0} → Kind → List ℕ → List (ℕ × GeomCell C) → ℕ → Option ℕ
first_number kind name rows at = option_map (λ row. row.0) (first_row (is_of kind name) rows at)

-- the first geom of the name: it is the first of the class too, or the first of the class comes behind it
pub record IsNamed {C : Type 0} (kind : Kind) (name : List ℕ) (rows : List (ℕ × GeomCell C)) (low high at n : ℕ)
    : Type 0 where
  pub cell : GeomCell C
  pub there : value_at rows n ≡ Some cell
  pub low_is : low ≤ n
  pub past : at ≤ n
  pub known : n < high
  pub here : is_of_class kind cell ≡ true → first_number kind name rows at ≡ Some n
  pub behind : is_of_class kind cell ≡ false → first_number kind name rows at ≡ first_number kind name rows (n + 1)

module _ {C : Type 0} (kind : Kind) (name : List ℕ) where
  -- where all numbers come later, it doesn't matter from where the walk begins
  from_any : (a b low high : ℕ) (rows : List (ℕ × GeomCell C)) → IsRising low rows high → a ≤ low → b ≤ low
      → first_number kind name rows a ≡ first_number kind name rows b
  from_any a b low high [] rising one two = refl
  from_any a b low high (row ∷ rows) rising one two =
      grind (
        arith,
        le-leb a row.0 (omega (arith, rising.0)),
        le-leb b row.0 (omega (arith, rising.0)),
        from_any a b (row.0 + 1) high rows rising.1 (omega (arith, rising.0)) (omega (arith, rising.0)),
      )

  -- a geom in front that is passed over
  front_step : (at n low high : ℕ) (row : ℕ × GeomCell C) (rows : List (ℕ × GeomCell C))
      → IsRising low (row ∷ rows) high → (nat_le at row.0 && is_of kind name row.1) ≡ false
      → IsNamed kind name rows (row.0 + 1) high at n → IsNamed kind name (row ∷ rows) low high at n
  front_step at n low high row rows rising e is = record {
    cell = is.cell;
    there = rw (ne_eqb row.0 n (λ k. omega (arith, is.low_is))) is.there;
    low_is = omega (arith, is.low_is, rising.0);
    past = is.past;
    known = is.known;
    here = λ k. rw e (is.here k);
    behind = λ k. rw (e, lt-leb (n + 1) row.0 (omega (arith, is.low_is))) (is.behind k);
  }

  -- one geom more in front: it is the first of the name, or a later one is
  named_step : (at n low high : ℕ) (row : ℕ × GeomCell C) (rows : List (ℕ × GeomCell C)) (a b d : Bool)
      → nat_le at row.0 ≡ a → same_name row.1.geom.name name ≡ b → is_kind row.1.geom.kind kind ≡ d
      → IsRising low (row ∷ rows) high
      → first_named (rows_with (geom_name {C = C}) (row ∷ rows)) name at ≡ Some n
      → (first_named (rows_with (geom_name {C = C}) rows) name at ≡ Some n
      → IsNamed kind name rows (row.0 + 1) high at n)
      → IsNamed kind name (row ∷ rows) low high at n
  named_step at n low high row rows true true d e f k rising first so =
      let found : Some row.0 ≡ Some n = rw (e, f) at first in
      let same : row.0 ≡ n = cc in
      let rest = IsRising_ends (row.0 + 1) rows high rising.1 in
      record {
        cell = row.1;
        there = rw (eq-eqb row.0 n same) refl;
        low_is = omega (arith, rising.0);
        past = omega (arith, leb-true at row.0 e);
        known = omega arith;
        here = λ c. rw (e, f, c) found;
        behind = λ c.
            rw (e, f, c, lt-leb (n + 1) row.0 (omega arith))
            (from_any at (n + 1) (row.0 + 1) high rows rising.1 (omega (arith, leb-true at row.0 e)) (omega arith));
      }
  named_step at n low high row rows true false d e f k rising first so =
      front_step at n low high row rows rising (rw (e, f) (and-false (is_kind row.1.geom.kind kind)))
      (so (rw (e, f) at first))
  named_step at n low high row rows false b d e f k rising first so =
      front_step at n low high row rows rising (rw e refl) (so (rw e at first))

  -- the first geom of the name
  pub named-first : (at n low high : ℕ) (rows : List (ℕ × GeomCell C)) → IsRising low rows high
      → first_named (rows_with (geom_name {C = C}) rows) name at ≡ Some n → IsNamed kind name rows low high at n
  named-first at n low high [] rising first = absurd cc
  named-first at n low high (row ∷ rows) rising first =
      named_step at n low high row rows (nat_le at row.0) (same_name row.1.geom.name name)
      (is_kind row.1.geom.kind kind) refl refl refl rising first
      (λ e. named-first at n (row.0 + 1) high rows rising.1 e)

  -- so by the names of all
  pub named-by : (at n next : ℕ) (names : List (ℕ × List ℕ)) (rows : List (ℕ × GeomCell C))
      → names ≡ rows_with (geom_name {C = C}) rows → IsRising 1 rows next → Some n ≡ first_named names name at
      → IsNamed kind name rows 1 next at n
  named-by at n next names rows same rising first =
      named-first at n 1 next rows rising (ap (λ ns. first_named ns name at) (sym same) ∙ sym first)

  -- where none is of the name, none is of the class and of the name
  pub named-none : (at : ℕ) (rows : List (ℕ × GeomCell C))
      → first_named (rows_with (geom_name {C = C}) rows) name at ≡ None → first_number kind name rows at ≡ None
  named-none at [] none = refl
  named-none at (row ∷ rows) none =
      grind (arith, and-false (is_kind row.1.geom.kind kind), named-none at rows)

  -- the first in the rows is the first in the graph
  pub named-graph : (at : ℕ) (rows : List (ℕ × GeomCell C))
      → first_number kind name rows at
      ≡ first_geom (filter (λ x. is_kind x.kind kind && same_name x.name name) (map geom_row rows)) at
  named-graph at [] = refl
  named-graph at (row ∷ rows) = grind (arith, named-graph at rows)
