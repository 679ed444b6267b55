-- A view begins by its rule, and its two ends and notes keep it.
use Rattle.std.proofs.Common.{◌≡◌, ◌≢◌, ℕ, zero, suc, ⊎_elim, List, [], ◌∷◌, length, set, true, false, Some, sym, refl, ap, ◌∙◌, subst, arith, length-set}
use mathlib.Core.Option.{some, some-injective, some-ne-none}
use lib.ListN.{get_elem?}
use Rattle.atomic_table.specs.Table.{Splits, Joins, opening}
use Rattle.atomic_table.proofs.Lists.{set_else}
use Rattle.geo_lock.proofs.Prefixes.{prefix_self, at_end}
use Rattle.geo_model.specs.declared.step.Entry.{Entry}
use Rattle.geo_jobs.specs.Passes.{MeshPass}
use Rattle.geo_jobs.specs.declared.role.Role.{Role}
use Rattle.geo_jobs.specs.declared.role.Role.TheVariants.{First, Shows, Comes, Looks, Note}
use Rattle.geo_jobs.specs.declared.known.Known.{Known}
use Rattle.geo_jobs.specs.declared.shown.Shown.{Shown}
use Rattle.geo_jobs.specs.Kept.{Slot, Layout, Plays, Knows, IsKept}
use Rattle.geo_jobs.specs.Views.{publisher_at_start, met, watcher_coming, note, learned_note, informed}
use Rattle.geo_jobs.proofs.Moves.{differ, moves, none_begins, one_more_begins, plays, views_stay}

module _ (from : MeshPass) where
  -- once the watcher has come
  abbrev met_layout : Layout → ℕ → Layout
  met_layout p watcher = record p { has_watcher = true; watcher = watcher }

  -- what others say stays true when the watcher comes
  meet_parts : (p : Layout) (watcher j : ℕ) → j ≢ p.publisher → p.has_watcher ≡ false → (seen : List Entry)
      (role : Role) → Plays p j seen role → Plays (met_layout p watcher) j seen role
  meet_parts p watcher j ne has_watcher seen First k = absurd (ne k.0)
  meet_parts p watcher j ne has_watcher seen (Shows b out) k = absurd (ne k.0)
  meet_parts p watcher j ne has_watcher seen (Comes f) k = differ (sym k.0 ∙ has_watcher)
  meet_parts p watcher j ne has_watcher seen (Looks f marked) k = differ (sym k.0 ∙ has_watcher)
  meet_parts p watcher j ne has_watcher seen Note k = k

  -- the watcher comes
  pub meets : (id : ℕ) (v : Known) → v.role ≡ First → Splits (IsKept from) id v (met v) (watcher_coming v)
  meets id v role s r at =
      let k = r.each_view id v at in
      let part = plays from r.layout id v First k role in
      let watcher : ℕ = length s.views in
      let q : Layout = met_layout r.layout watcher in
      let long : length (set s.views id (met v)) ≡ watcher = length-set s.views id (met v) in record {
        layout = q;
        low = r.low;
        apart = r.apart;
        word = r.word;
        long = r.long;
        shown = r.shown;
        back_home = r.back_home;
        front_home = r.front_home;
        each_view = λ j d e. ⊎_elim
            (λ (f : get_elem? (set s.views id (met v)) j ≡ some d). views_stay from q s.views id (met v)
            record { of = k.of; seen = k.seen; told = k.told; part = (part.0, sym part.2, sym part.4, part.7) }
            (λ i o ne g. moves from r.layout q (prefix_self r.layout.latest) i
            (meet_parts r.layout watcher i (λ h. ne (h ∙ sym part.0)) part.1) o (r.each_view i o g)) j d f)
            (λ (t : (j ≡ length (set s.views id (met v))) × (watcher_coming v ≡ d)).
            subst (λ (z : ℕ × Known). Knows from q z.0 z.1) (λ i. (sym (t.0 ∙ long) i, t.1 i))
            record {
              of = k.of;
              seen = (r.layout.latest, refl);
              told = one_more_begins v.seen [] r.layout.latest k.seen (none_begins r.layout.latest);
              part = (refl, refl, sym part.3, part.5, part.6);
            })
            (at_end (set s.views id (met v)) (watcher_coming v) d j e);
      }

  -- the publisher tells
  pub notes : (id : ℕ) (v : Known) → Splits (IsKept from) id v v (note v)
  notes id v s r at = let k : Knows from r.layout id v = r.each_view id v at in record {
    layout = r.layout;
    low = r.low;
    apart = r.apart;
    word = r.word;
    long = r.long;
    shown = r.shown;
    back_home = r.back_home;
    front_home = r.front_home;
    each_view = λ j d e. ⊎_elim
        (λ (f : get_elem? (set s.views id v) j ≡ some d).
        views_stay from r.layout s.views id v k (λ i o ne g. r.each_view i o g) j d f)
        (λ (t : (j ≡ length (set s.views id v)) × (note v ≡ d)). subst (λ (z : Known). Knows from r.layout j z) t.1
        record { of = k.of; seen = k.seen; told = none_begins r.layout.latest; part = tt })
        (at_end (set s.views id v) (note v) d j e);
  }

  -- the watcher learns a note
  pub learns : (id : ℕ) (v : Known) (other : ℕ) (w : Known)
      → Joins (IsKept from) id v other w (informed v w) learned_note
  learns id v other w s r at apart there =
      let k = r.each_view id v at in
      let told : Knows from r.layout other w = r.each_view other w
      (sym (set_else s.views id other (informed v w) apart) ∙ there) in record {
        layout = r.layout;
        low = r.low;
        apart = r.apart;
        word = r.word;
        long = r.long;
        shown = r.shown;
        back_home = r.back_home;
        front_home = r.front_home;
        each_view = views_stay from r.layout (set s.views id (informed v w)) other learned_note
            record {
              of = λ o e. absurd (cc e);
              seen = (r.layout.latest, refl);
              told = none_begins r.layout.latest;
              part = tt;
            }
            (λ j d _ e. views_stay from r.layout s.views id (informed v w)
            record {
              of = k.of;
              seen = k.seen;
              told = one_more_begins w.seen v.told r.layout.latest told.seen k.told;
              part = k.part;
            }
            (λ i o ne g. r.each_view i o g) j d e);
      }

  -- the publisher alone, at the start
  opening_views : (p : Layout) → Knows from p 0 (publisher_at_start from) → (j : ℕ) (d : Known)
      → get_elem? (publisher_at_start from ∷ []) j ≡ some d → Knows from p j d
  opening_views p k zero d e = subst (λ (z : Known). Knows from p 0 z) (some-injective (publisher_at_start from) d e) k
  opening_views p k (suc j) d e = absurd (some-ne-none d (sym e))

  -- a view begins by its rule
  pub opens : (x : Shown) (y z : Slot) → x.at.value ≡ from
      → IsKept from (opening (1 ∷ []) (Some x ∷ y ∷ z ∷ []) (publisher_at_start from))
  opens x y z at = let p : Layout = record {
    latest = from.seen;
    middle = 0;
    back = 1;
    front = 2;
    fresh = true;
    back_out = false;
    front_out = false;
    has_watcher = false;
    publisher = 0;
    watcher = 0;
  } in record {
    layout = p;
    low = (omega arith, omega arith, omega arith);
    apart = ((λ e. absurd (omega arith)), (λ e. absurd (omega arith)), (λ e. absurd (omega arith)));
    word = refl;
    long = refl;
    shown = (
      Some x,
      refl,
      λ _. (
        x,
        refl,
        ap (λ (o : MeshPass). o.seen) at,
        record {
          yard = ap (λ (o : MeshPass). o.yard) at;
          start = ap (λ (o : MeshPass). o.start) at;
          number = ap (λ (o : MeshPass). o.number) at;
        },
      ),
    );
    back_home = λ _. (y, refl);
    front_home = λ _. (z, refl);
    each_view = opening_views p record {
      of = λ o e. cc e;
      seen = prefix_self from.seen;
      told = none_begins from.seen;
      part = (refl, refl, refl, refl, refl, refl, refl, refl);
    };
  }
