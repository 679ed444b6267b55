-- An append: the concat has grown, what rises is announced, and the growth is to be heard of; or it is refused.
use Rattle.std.specs.Prelude.{ℕ, ◌≡◌, false, List, [], ◌∷◌, Option, Some, None, IsSome, find, ◌==◌}
use Rattle.std.proofs.Common.{refl, sym, subst}
use Rattle.geo_model.specs.Topology.{Provider, provider_at, find_provider}
use Rattle.geo_model.specs.World.{World, Config, granted_in}
use Rattle.geo_model.specs.Fitting.{Firm}
use Rattle.geo_base.specs.declared.errno.Errno.{Errno}
use Rattle.geo_base.specs.declared.request.Counts.{Counts}
use Rattle.geo_model.specs.declared.step.Event.TheVariants as events
use Rattle.geo_model.specs.Words.{first_error}
use Rattle.geo_model.specs.Demand.{risen}
use Rattle.geo_model.specs.Events.{QueuedTopology, spoil_at, announce_risen}
use Rattle.geo_model.specs.WorldEvents.{queued_of, after_open}
use Rattle.geo_model.specs.GeomCommands.{found_provider}
use Rattle.geo_model.specs.Append.{Growing, growing_concat, is_invalid_append, is_growth_busy, append_tests, component_refusal, with_component, appended, append_joined, append_tested, do_append}
use Rattle.geo_laws_graph.proofs.Living.{sound-order}
use Rattle.geo_laws_life.proofs.UsedNumber.{number_firm}
use Rattle.geo_laws_life.proofs.Announced.{announces_keep}
use Rattle.geo_laws_life.proofs.MarksKept.{queues_keep}
use Rattle.geo_laws_making.proofs.Made.{through}
use Rattle.geo_laws_making.proofs.Nopped.{found_by_number}
use Rattle.geo_laws_making.specs.AppendLaws.{AppendsStayFirm}
use Rattle.geo_laws_making.proofs.Concats.{IsStanding, growing_stands}
use Rattle.geo_laws_making.proofs.Larger.{valid_from, larger-firm, larger-lives, provider-lives}
use Rattle.geo_laws_making.proofs.Pulled.{none-refuses}

-- An append: the concat has grown, what rises is announced, and the growth is to be heard of; or the command is
-- refused.

-- spoils leave the providers
announced-providers : (granted : ℕ → Counts) (ps : List ℕ) (q : QueuedTopology Config)
    → (announce_risen granted ps q).topology.providers ≡ q.topology.providers
announced-providers granted [] q = refl
announced-providers granted (p ∷ ps) q = announced-providers granted ps (spoil_at granted q p)

module _ (w : World) (x : Growing) (q : Provider) (firm : Firm w) (is : IsStanding w.topology x)
    (there : provider_at w.topology q.number ≡ Some q) where
  -- an append that isn't refused
  appended-firm : is_invalid_append w.topology x q ≡ false → is_growth_busy w x.provider.number ≡ false
      → component_refusal w x q ≡ None → Firm (appended w x q)
  appended-firm valid busy none =
      let good = valid_from w.topology x q valid in
      let opened : World = after_open w (with_component w x q) in
      let ps : List ℕ = risen (granted_in w) w.topology (granted_in (with_component w x q))
      (with_component w x q).topology in
      queues_keep.posted opened (events.Resize x.provider.number)
      (subst (λ (ys : List Provider). IsSome (find (λ (z : Provider). z.number == x.provider.number) ys))
      (sym (announced-providers (granted_in (with_component w x q)) ps (queued_of (with_component w x q))))
      (provider-lives w x q firm is there good busy none))
      (announces_keep.opened w (with_component w x q) (larger-lives w x q firm is there good busy none)
      (larger-firm w x q firm is there good busy none))

  -- the consumer is refused, or not
  joined-firm : (line : ℕ) → is_invalid_append w.topology x q ≡ false → is_growth_busy w x.provider.number ≡ false
      → (e : Option Errno) → component_refusal w x q ≡ e → Firm (append_joined w line x q e).0
  joined-firm line valid busy None none = appended-firm valid busy none
  joined-firm line valid busy (Some e) some = number_firm w firm

  -- the append is refused before, or not
  tested-firm : (line : ℕ) (e : Option Errno) → first_error (append_tests w x q) ≡ e
      → Firm (append_tested w line x q e).0
  tested-firm line None none =
      let tests = none-refuses (append_tests w x q) none in
      joined-firm line tests.0 tests.1.0 (component_refusal w x q) refl
  tested-firm line (Some e) some = firm

-- an append of what is found keeps a firm world firm
append-firm : (w : World) (line : ℕ) (o : Option Growing) (r : Option Provider)
    → ((x : Growing) → o ≡ Some x → IsStanding w.topology x)
    → ((q : Provider) → r ≡ Some q → provider_at w.topology q.number ≡ Some q) → Firm w
    → Firm (do_append w line o r).0
append-firm w line None r stands found firm = firm
append-firm w line (Some x) None stands found firm = firm
append-firm w line (Some x) (Some q) stands found firm =
    tested-firm w x q firm (stands x refl) (found q refl) line (first_error (append_tests w x q)) refl

-- so say all appends
pub appends_stay : AppendsStayFirm
appends_stay = record {
  append = λ w line name prov firm.
      append-firm w line (growing_concat w.topology name) (found_provider w prov)
      (λ x e. growing_stands w.topology name x (sound-order w firm.graph.numbers) e) (λ q e.
      let n = through (provider_at w.topology) (find_provider w.topology prov) q e in
      found_by_number w n.first q n.then) firm;
}
