-- A handle is closed: a firm mesh stays firm.
use Rattle.std.specs.Prelude.{◌≡◌, ◌≢◌, ℕ, ◌≤◌, ◌==◌, Bool, true, false, not, ◌&&◌, List, length, map, filter, find, count_by, Option, Some, None, Contains, IsSomeAnd, MatchOption}
use Rattle.std.specs.List.{AllByRecursion}
use Rattle.std.proofs.Common.{refl, sym, ◌∙◌, ap, subst, arith}
use Rattle.std.proofs.lemmas.Bool.{eq-eqb, ne_eqb}
use Rattle.std.proofs.lemmas.List.Elements.{All-contains, All-filter}
use Rattle.std.proofs.lemmas.List.Sums.{length-filter}
use Rattle.geo_base.proofs.MemberLists.{one_only}
use Rattle.geo_model.specs.Words.{same_name, names_number}
use Rattle.geo_model.specs.Topology.{Topology, Consumer, consumer_at, consumers_of, remove_consumer}
use Rattle.geo_model.specs.World.{World, Config, Handle, handle_of, is_active}
use Rattle.geo_model.specs.HandleCommands.{close_handle}
use Rattle.geo_model.specs.Graph.{AreNumbers}
use Rattle.geo_model.specs.Sound.{IsHandleConsumer, HasItsConsumer}
use Rattle.geo_model.specs.Fitting.{Firm}
use Rattle.geo_model.proofs.DemandLemmas.{all_weaker}
use Rattle.geo_laws_graph.proofs.Members.{find-Contains, filter-Contains, Contains-filter}
use Rattle.geo_laws_graph.proofs.Lists.{numbers-kept, found_itself}
use Rattle.geo_laws_graph.proofs.Numbered.{number_found, unique}
use Rattle.geo_laws_graph.proofs.Found.{removed-consumer}
use Rattle.geo_laws_graph.proofs.Spared.{IsSpared, find-spared, filter-spared}
use Rattle.geo_laws_counts.proofs.LimitFacts.{all_of}
use Rattle.geo_laws_life.proofs.Announced.{announces_keep}
use Rattle.geo_laws_life.proofs.Found.{found-with, one-found}
use Rattle.geo_laws_handles.specs.CloseLaws.{ClosesStayFirm}
use Rattle.geo_laws_handles.proofs.Handles.{AreSteady, handles-firm}
use Rattle.geo_laws_handles.proofs.Released.{AreReleased, without-firm}

module _ (w : World) (firm : Firm w) where
  -- the graph
  abbrev t : Topology Config
  t = w.topology

  -- a handle's consumer is one of DEV that stands
  pub record HasDev (h : Handle) (n : ℕ) : Type 0 where
    pub consumer : Consumer
    pub here : Contains t.consumers consumer
    pub dev : consumer.geom ≡ 1
    pub names : h.consumer ≡ Some consumer.number
    pub number : consumer.number ≡ n

  -- it has such a one
  pub has_dev : (h : Handle) (n : ℕ) → Contains w.handles h → h.consumer ≡ Some n → HasDev h n
  has_dev h n here names =
      let its : HasItsConsumer t h = All-contains (HasItsConsumer t) w.handles h firm.handles.handles here in
      let c = found-with (consumer_at t n) (λ x. x.geom ≡ 1)
      (subst (λ o. MatchOption o (h.dead ≡ true) (λ m. IsSomeAnd (consumer_at t m) (λ x. x.geom ≡ 1))) names its) in
      let number : c.item.number ≡ n = number_found (λ (x : Consumer). x.number) t.consumers n c.item c.is in
      record {
        consumer = c.item;
        here = find-Contains (λ (x : Consumer). x.number == n) t.consumers c.item c.is;
        dev = c.fact;
        names = names ∙ ap (λ m. Some m) (sym number);
        number = number;
      }

  -- two handles of one consumer are one
  pub one_holder : (h x : Handle) (n : ℕ) → Contains w.handles h → Contains w.handles x → h.consumer ≡ Some n
      → x.consumer ≡ Some n → x ≡ h
  one_holder h x n h_here x_here h_names x_names =
      let c = has_dev h n h_here h_names in
      let of : Contains (consumers_of t 1) c.consumer =
      Contains-filter (λ (y : Consumer). y.geom == 1) t.consumers c.consumer c.here (eq-eqb c.consumer.geom 1 c.dev)
      in
      let one = (All-contains (IsHandleConsumer w.handles) (consumers_of t 1) c.consumer firm.handles.consumers
      of).one_handle in
      let short : length (filter (λ (y : Handle). names_number y.consumer n) w.handles) ≤ 1 =
      (let count : count_by (λ (y : Handle). names_number y.consumer n) w.handles ≡ 1 =
      subst (λ m. count_by (λ (y : Handle). names_number y.consumer m) w.handles ≡ 1) c.number one in
      let same = length-filter (λ (y : Handle). names_number y.consumer n) w.handles in
      omega (arith, same, count)) in
      one_only (filter (λ (y : Handle). names_number y.consumer n) w.handles) x h short
      (Contains-filter (λ (y : Handle). names_number y.consumer n) w.handles x x_here
      (rw x_names (eq-eqb n n refl)))
      (Contains-filter (λ (y : Handle). names_number y.consumer n) w.handles h h_here
      (rw h_names (eq-eqb n n refl)))

  module _ (h : Handle) (here : Contains w.handles h) where
    -- whether a handle is the one
    abbrev is_it : Handle → Bool
    is_it x = x.number == h.number

    -- those that stay
    abbrev pub others : List Handle
    others = filter (λ x. not (is_it x)) w.handles

    -- it is found
    found_it : find is_it w.handles ≡ Some h
    found_it = found_itself (λ (x : Handle). x.number) w.next_handle w.handles h firm.handles.numbers here

    -- what it doesn't pass is spared
    spared : (test : Handle → Bool) → test h ≡ false → AllByRecursion (IsSpared is_it test) w.handles
    spared test out = all_weaker (λ (y : Handle). is_it y ≡ true → y ≡ h) (IsSpared is_it test)
        (λ y same e. ap test (same e) ∙ out) w.handles
        (unique (λ (x : Handle). x.number) w.next_handle h.number w.handles h firm.handles.numbers found_it)

    -- as many pass
    count_spared : (test : Handle → Bool) → test h ≡ false → count_by test others ≡ count_by test w.handles
    count_spared test out =
        sym (length-filter test others) ∙ ap (λ (ys : List Handle). length ys)
        (filter-spared is_it test w.handles (spared test out)) ∙ length-filter test w.handles

    -- the numbers of the others
    others_numbers : AreNumbers (map (λ (x : Handle). x.number) others) w.next_handle
    others_numbers = numbers-kept (λ (x : Handle). x.number) (λ x. not (is_it x)) w.next_handle w.handles
        firm.handles.numbers

    -- the handle of a line is another one, where its consumer is another one
    line_spared : (handle source : ℕ) → (h.consumer ≡ Some source → ⊥)
        → IsSomeAnd (find (λ x. x.number == handle) w.handles) (λ x. x.consumer ≡ Some source)
        → IsSomeAnd (find (λ x. x.number == handle) others) (λ x. x.consumer ≡ Some source)
    line_spared handle source unnamed fact =
        subst (λ o. IsSomeAnd o (λ (x : Handle). x.consumer ≡ Some source))
        (sym (find-spared is_it (λ (x : Handle). x.number == handle) w.handles
        (spared (λ (x : Handle). x.number == handle) (ne_eqb h.number handle another)))) fact
      where
        -- it isn't the one
        another : h.number ≢ handle
        another same =
            let x = found-with (find (λ (x : Handle). x.number == handle) w.handles)
            (λ x. x.consumer ≡ Some source) fact in
            let there : find (λ (x : Handle). x.number == handle) w.handles ≡ Some h =
            subst (λ n. find (λ (x : Handle). x.number == n) w.handles ≡ Some h) same found_it in
            let one : x.item ≡ h = one-found (find (λ (x : Handle). x.number == handle) w.handles)
            x.item h x.is there in
            unnamed (subst (λ (y : Handle). y.consumer ≡ Some source) one x.fact)

    -- A handle without a consumer

    -- the others are steady
    others_steady : h.consumer ≡ None → AreSteady w others
    others_steady none = record {
      numbers = others_numbers;
      found = λ d. find-spared is_it (λ (x : Handle). names_number x.consumer d) w.handles
          (spared (λ (x : Handle). names_number x.consumer d) (rw none refl));
      count = λ d. count_spared (λ (x : Handle). names_number x.consumer d) (rw none refl);
      each = All-filter (λ x. not (is_it x)) (HasItsConsumer t) w.handles firm.handles.handles;
      of_line = λ handle source fact. line_spared handle source
          (λ some. let no : None ≡ Some source = sym none ∙ some in
          cc) fact;
    }

    -- A handle with one

    module _ (d : Consumer) (names : h.consumer ≡ Some d.number) where
      -- another number isn't its
      not_named : (n : ℕ) → n ≢ d.number → names_number h.consumer n ≡ false
      not_named n apart = rw names (ne_eqb d.number n (λ same. apart (sym same)))

      -- each other handle has its consumer
      has_its : (x : Handle) → Contains others x → HasItsConsumer (remove_consumer t d.number) x
      has_its x x_here =
          by x.consumer refl (All-contains (HasItsConsumer t) w.handles x firm.handles.handles kept.0)
        where
          -- it stays
          kept : Contains w.handles x × (not (is_it x) ≡ true)
          kept = filter-Contains (λ y. not (is_it y)) w.handles x x_here

          -- it has another number
          differs : x ≡ h → ⊥
          differs same =
              let is : is_it x ≡ true = eq-eqb x.number h.number (ap (λ (y : Handle). y.number) same) in
              let no : false ≡ true = sym (ap not is) ∙ kept.1 in
              cc

          -- by the consumer
          by : (o : Option ℕ) → x.consumer ≡ o
              → MatchOption o (x.dead ≡ true) (λ c. IsSomeAnd (consumer_at t c) (λ y. y.geom ≡ 1))
              → MatchOption o (x.dead ≡ true)
              (λ c. IsSomeAnd (consumer_at (remove_consumer t d.number) c) (λ y. y.geom ≡ 1))
          by None e fact = fact
          by (Some n) e fact =
              let apart : n ≢ d.number =
              (λ same. differs (one_holder h x d.number here kept.0 names
              (subst (λ m. x.consumer ≡ Some m) same e))) in
              subst (λ o. IsSomeAnd o (λ (y : Consumer). y.geom ≡ 1))
              (sym (removed-consumer.others t d.number n apart)) fact

      -- so the others are released
      pub others_released : AreReleased w d.number others
      others_released = record {
        numbers = others_numbers;
        found = λ n apart. find-spared is_it (λ (x : Handle). names_number x.consumer n) w.handles
            (spared (λ (x : Handle). names_number x.consumer n) (not_named n apart));
        count = λ n apart. count_spared (λ (x : Handle). names_number x.consumer n) (not_named n apart);
        each = all_of (HasItsConsumer (remove_consumer t d.number)) others has_its;
        of_line = λ handle source apart fact. line_spared handle source
            (λ some. let same : Some d.number ≡ Some source = sym names ∙ some in
            let is : d.number ≡ source = cc in apart (sym is)) fact;
      }

    -- The close

    -- by whether its consumer is active
    close_idle : (d : Consumer) → Contains t.consumers d → d.geom ≡ 1 → h.consumer ≡ Some d.number → (b : Bool)
        → is_active w d.number ≡ b → (line : ℕ) → Firm (close_handle w line (Some h)).0
    close_idle d d_here dev names true active line = rw (names, active) firm
    close_idle d d_here dev names false idle line =
        rw (names, idle) (announces_keep.closed w (record w {
          topology = remove_consumer t d.number;
          handles = others;
        })
        (without-firm w firm d d_here dev others (others_released d names) idle))

    -- by its consumer
    close_by : (o : Option ℕ) → h.consumer ≡ o → (line : ℕ) → Firm (close_handle w line (Some h)).0
    close_by None none line =
        rw none (announces_keep.closed w (record w { handles = others })
        (handles-firm w firm others (others_steady none)))
    close_by (Some n) names line =
        let c = has_dev h n here names in
        close_idle c.consumer c.here c.dev c.names (is_active w c.consumer.number) refl line

  -- by the handle
  close_at : (actor : ℕ) (name : List ℕ) (o : Option Handle) → handle_of w actor name ≡ o → (line : ℕ)
      → Firm (close_handle w line o).0
  close_at actor name None e line = firm
  close_at actor name (Some h) e line =
      close_by h (find-Contains (λ (x : Handle). (x.actor == actor) && same_name x.name name) w.handles h e)
      h.consumer
      refl line

-- a close keeps a firm mesh firm
pub closes_stay_firm : ClosesStayFirm
closes_stay_firm = record {
  handle = λ w line h here firm. close_by w firm h here h.consumer refl line;
  named = λ w line actor name firm. close_at w firm actor name (handle_of w actor name) refl line;
}
