-- The items as they lie in memory, and the steps of the script behind each.
use Rattle.std.proofs.Common.{◌≡◌, ◌≤◌, ◌<◌, ◌∙◌, inl, inr, ap, refl, sym, subst, arith, ℕ, zero, suc, ◌+◌, List, [], ◌∷◌, ◌++◌, length, get_or, take, drop, Bool, true, false, Err}
use Rattle.std.specs.List.{AllByRecursion}
use Rattle.std.specs.Prelude.{Option}
use Rattle.std.proofs.lemmas.List.{drop_all, drop_more, length-map, take_all, take_more}
use Rattle.io_traits.specs.Host.{HostState}
use Rattle.io_traits.specs.declared.host.Place.TheVariants as places
use Rattle.recording.specs.declared.item.Item.{Item as Held}
use Rattle.recording.specs.Answers.{item_of, items_of}
use Rattle.recording.specs.declared.header.Header.TheVariants.{Second}
use Rattle.recording.specs.Items.{Item, IsItem}
use Rattle.admission_log.specs.declared.settings.Settings.{Settings}
use Rattle.admission_log.specs.declared.events.Event.{Event}
use Rattle.admission_log.specs.Histories.{History}
use Rattle.session_script.specs.Scripts.{End, Follows, Script, ends, writes}
use Rattle.session_script.specs.declared.status.Status.TheVariants.{Memory}
use Rattle.session_script.proofs.Following.{after_pick, at_end, ended_so, gave_up}
use Rattle.tracker_session.specs.declared.counts.Counts.{Counts}
use Rattle.edition_form.specs.Prices.{ArePricesOf}
use Rattle.tracker_session.specs.Replay.{IsEditionAt, log_with, newest}
use Rattle.tracker_session.specs.ReplayScript.{Added, EditionOf, IsEndAt, edition_script, end_at, items_script}
use Rattle.tracker_session.specs.Taking.{HasTaken, Progress, shows}

-- ---- items as they lie in memory

pub item_fits : (xs : List Held) (i : ℕ) (d : Held) → i < length xs → AllByRecursion (IsItem Second) (items_of xs) → IsItem Second (item_of (get_or xs i d))
item_fits [] i d lt h = absurd (omega (arith, lt))
item_fits (x ∷ xs) zero d lt h = h.0
item_fits (x ∷ xs) (suc i) d lt h = item_fits xs i d (omega (arith, lt)) h.1

item_here : (xs : List Held) (i : ℕ) (d : Held) (y : Item) → i < length xs → get_or (items_of xs) i y ≡ item_of (get_or xs i d)
item_here [] i d y lt = absurd (omega (arith, lt))
item_here (x ∷ xs) zero d y lt = refl
item_here (x ∷ xs) (suc i) d y lt = item_here xs i d y (omega (arith, lt))

-- the item at a place, and the rest
pub rest_at : (xs : List Held) (i : ℕ) (d : Held) → i < length xs → drop i (items_of xs) ≡ item_of (get_or xs i d) ∷ drop (i + 1) (items_of xs)
rest_at xs i d lt = drop_more (items_of xs) i (item_of d) (omega (arith, lt, length-map xs item_of)) ∙ ap (λ x. x ∷ drop (i + 1) (items_of xs)) (item_here xs i d (item_of d) lt)

pub none_left : (xs : List Held) (i : ℕ) → length xs ≤ i → drop i (items_of xs) ≡ []
none_left xs i all = drop_all i (items_of xs) (omega (arith, all, length-map xs item_of))

pub all_taken : (xs : List Held) (i : ℕ) → length xs ≤ i → take i (items_of xs) ≡ items_of xs
all_taken xs i all = take_all i (items_of xs) (omega (arith, all, length-map xs item_of))

pub next_taken : (xs : List Held) (i : ℕ) (d : Held) → i < length xs → take (i + 1) (items_of xs) ≡ take i (items_of xs) ++ item_of (get_or xs i d) ∷ []
next_taken xs i d lt = take_more (items_of xs) i (item_of d) (omega (arith, lt, length-map xs item_of)) ∙ ap (λ x. take i (items_of xs) ++ x ∷ []) (item_here xs i d (item_of d) lt)

-- ---- the script behind one more item

module _ (settings : Settings) (next : History → Script) (run run' : Progress) (item : Item) (items xs : List Item) (is : xs ≡ item ∷ items) (added : Option Event) (has : HasTaken settings item added run run') (end : End) (old new : HostState) where
  here : Follows (edition_script settings (log_with run.log added) (shows added) (items_script settings next (log_with run.log added) items)) end old new → Follows (items_script settings next run.log xs) end old new
  unfolding items_script
  here f = subst (λ (x : List Item). Follows (items_script settings next run.log x) end old new) (sym is) (after_pick (λ (a : Added settings run.log item). edition_script settings (log_with run.log a.event) (shows a.event) (items_script settings next (log_with run.log a.event) items)) (record { event = added; adds = has.adds }) end old new f)

  -- it gives no edition
  pub silent_item : shows added ≡ false → Follows (items_script settings next run'.log items) end old new → Follows (items_script settings next run.log xs) end old new
  silent_item silent f =
      let behind = subst (λ (log : History). Follows (items_script settings next log items) end old new) has.log f in
      here (subst (λ (b : Bool). Follows (edition_script settings (log_with run.log added) b (items_script settings next (log_with run.log added) items)) end old new) (sym silent) behind)

  -- it gives this edition
  pub shown_item : (octets prices : List ℕ) → shows added ≡ true → IsEditionAt settings run'.log (newest run'.log) octets → ArePricesOf settings run'.log (newest run'.log) prices → Follows (writes places.Output octets (writes places.Prices prices (items_script settings next run'.log items))) end old new → Follows (items_script settings next run.log xs) end old new
  shown_item octets prices shown edition priced f =
      let one = subst (λ (log : History). IsEditionAt settings log (newest log) octets) has.log edition in
      let its_prices = subst (λ (log : History). ArePricesOf settings log (newest log) prices) has.log priced in
      let behind = subst (λ (log : History). Follows (writes places.Output octets (writes places.Prices prices (items_script settings next log items))) end old new) has.log f in
      let picked = after_pick (λ (e : EditionOf settings (log_with run.log added)). writes places.Output e.octets (writes places.Prices e.prices (items_script settings next (log_with run.log added) items))) (record { octets = octets; is = one; prices = prices; priced = its_prices }) end old new behind in
      here (subst (λ (b : Bool). Follows (edition_script settings (log_with run.log added) b (items_script settings next (log_with run.log added) items)) end old new) (sym shown) picked)

-- ---- the end

pub items_over : (settings : Settings) (next : History → Script) (log : History) (xs : List Item) (end : End) (old new : HostState) → xs ≡ [] → Follows (next log) end old new → Follows (items_script settings next log xs) end old new
unfolding items_script
items_over settings next log xs end old new none f = subst (λ (x : List Item). Follows (items_script settings next log x) end old new) (sym none) f

pub ends_at : (fault : Option ℕ) (counts : Counts) (end : End) (host : HostState) → IsEndAt fault counts end → Follows (ends (end_at fault counts)) end host host
ends_at fault counts end host (inl e) = ended_so (ends (end_at fault counts)) (end_at fault counts) end host host e (at_end (end_at fault counts) host)
ends_at fault counts end host (inr m) = ended_so (ends (end_at fault counts)) (Err Memory) end host host m (gave_up (ends (end_at fault counts)) host)
