-- The summary of a log with one more event, and that the log stays legal.
use Rattle.std.proofs.Common.{◌≡◌, ◌∙◌, ap, sym, subst, ℕ, ◌+◌, ◌<◌, ◌≤◌, ◌^◌, length, arith}
use Rattle.plot_geometry.specs.declared.biases.Bias as biases
use Rattle.admission_log.specs.declared.summary.LogSummary.TheInside.{Inside}
use Rattle.admission_log.specs.declared.settings.Settings.{Settings}
use Rattle.admission_log.specs.declared.events.Event.{Event}
use Rattle.admission_log.specs.declared.events.Event.TheVariants.{Tick, Publish, Bias}
use Rattle.admission_log.specs.Histories.{History, appended, admitted_in, last_of, next_of, published_of, cut_of}
use Rattle.admission_log.specs.Messages.{Said}
use Rattle.admission_log.specs.Deliveries.{delivered, IsDeliveryOf}
use Rattle.admission_log.specs.Changes.{IsOpenChange}
use Rattle.admission_log.specs.Legality.{IsLegal, IsLegalEvent}
use Rattle.admission_log.specs.Summaries.{Summary, summary_of}
use Rattle.admission_log.proofs.Growing.{legal_appended, events-appended, last-appended, next-grown, next-appended, published-appended, cut-appended}
use Rattle.admission_log.proofs.Judgements.{delivery_of, delivery_is}
use Rattle.admission_log.proofs.Sound.{legal_delivery}

-- a summary by its numbers
summary_is : (log : History) (start last next published cut count : ℕ) → start ≡ log.start → last ≡ last_of log → next ≡ next_of log → published ≡ published_of log → cut ≡ cut_of log → count ≡ length log.events
    → let s : Summary = record { start = start; last = last; next = next; published = published; cut = cut; count = count } in s ≡ summary_of log
summary_is log start last next published cut count p q r s t u = λ i. record { start = p i; last = q i; next = r i; published = s i; cut = t i; count = u i }

-- .. and a log's own numbers
same_last : (s : Summary) (log : History) → s ≡ summary_of log → s.last ≡ last_of log
same_last s log same = ap (λ x. x.last) same

same_next : (s : Summary) (log : History) → s ≡ summary_of log → s.next ≡ next_of log
same_next s log same = ap (λ x. x.next) same

same_published : (s : Summary) (log : History) → s ≡ summary_of log → s.published ≡ published_of log
same_published s log same = ap (λ x. x.published) same

same_cut : (s : Summary) (log : History) → s ≡ summary_of log → s.cut ≡ cut_of log
same_cut s log same = ap (λ x. x.cut) same

same_count : (s : Summary) (log : History) → s ≡ summary_of log → s.count ≡ length log.events
same_count s log same = ap (λ x. x.count) same

-- ---- a tick

pub ticked : (log : History) (s : Summary) (time count : ℕ) → s ≡ summary_of log → s.last < time → count ≡ s.count + 1
    → let new : Summary = record { start = s.start; last = time; next = s.next; published = s.published; cut = s.cut; count = count } in new ≡ summary_of (appended log (Tick time))
ticked log s time count same later more =
    let e = Tick time in
    summary_is (appended log e) s.start time s.next s.published s.cut count
    (ap (λ x. x.start) same)
    (omega (arith, last-appended log e, same_last s log same, later))
    (omega (arith, next-appended log e, same_next s log same))
    (omega (arith, published-appended log e, same_published s log same))
    (same_cut s log same ∙ sym (cut-appended log e))
    (omega (arith, events-appended log e, same_count s log same, more))

pub tick_legal : (settings : Settings) (log : History) (s : Summary) (time : ℕ) → s ≡ summary_of log → s.last < time → time < 2 ^ 40 → IsLegal settings log → IsLegal settings (appended log (Tick time))
tick_legal settings log s time same later in_time legal = legal_appended settings log (Tick time) legal (omega (arith, same_last s log same, later), in_time)

-- ---- a change of biases

pub changed : (log : History) (s : Summary) (radar slot : ℕ) (bias : biases.Bias) (count : ℕ) → s ≡ summary_of log → count ≡ s.count + 1
    → let new : Summary = record { start = s.start; last = s.last; next = s.next; published = s.published; cut = s.cut; count = count } in new ≡ summary_of (appended log (Bias radar slot bias))
changed log s radar slot bias count same more =
    let e = Bias radar slot bias in
    summary_is (appended log e) s.start s.last s.next s.published s.cut count
    (ap (λ x. x.start) same)
    (omega (arith, last-appended log e, same_last s log same))
    (omega (arith, next-appended log e, same_next s log same))
    (omega (arith, published-appended log e, same_published s log same))
    (same_cut s log same ∙ sym (cut-appended log e))
    (omega (arith, events-appended log e, same_count s log same, more))

pub change_legal : (settings : Settings) (log : History) (s : Summary) (radar slot : ℕ) (bias : biases.Bias) → s ≡ summary_of log → IsOpenChange settings s.last radar slot → slot < 2 ^ 34 → IsLegal settings log → IsLegal settings (appended log (Bias radar slot bias))
change_legal settings log s radar slot bias same is_open below legal =
    legal_appended settings log (Bias radar slot bias) legal (subst (λ last. IsOpenChange settings last radar slot) (same_last s log same) is_open, below)

-- ---- an edition

pub published : (log : History) (s : Summary) (number cut count : ℕ) → s ≡ summary_of log → number ≡ s.published + 1 → s.cut ≤ cut → count ≡ s.count + 1
    → let new : Summary = record { start = s.start; last = s.last; next = s.next; published = number; cut = cut; count = count } in new ≡ summary_of (appended log (Publish number cut))
published log s number cut count same next no_less more =
    let e = Publish number cut in
    summary_is (appended log e) s.start s.last s.next number cut count
    (ap (λ x. x.start) same)
    (omega (arith, last-appended log e, same_last s log same))
    (omega (arith, next-appended log e, same_next s log same))
    (omega (arith, published-appended log e, same_published s log same, next))
    (omega (arith, cut-appended log e, same_cut s log same, no_less))
    (omega (arith, events-appended log e, same_count s log same, more))

pub edition_legal : (settings : Settings) (log : History) (s : Summary) (number cut : ℕ) → s ≡ summary_of log → number ≡ s.published + 1 → s.cut ≤ cut → cut ≤ s.count → IsLegal settings log → IsLegal settings (appended log (Publish number cut))
edition_legal settings log s number cut same next no_less no_more legal =
    legal_appended settings log (Publish number cut) legal
    (omega (arith, same_published s log same, next), omega (arith, same_cut s log same, no_less), omega (arith, same_count s log same, no_more))

-- ---- a datagram

pub delivered_summary : (log : History) (s : Summary) (settings : Settings) (feed : ℕ) (said : Said) (e : Event) (next count : ℕ) → s ≡ summary_of log → IsDeliveryOf settings s.last s.next feed said e → next ≡ s.next + length (admitted_in e) → count ≡ s.count + 1
    → let new : Summary = record { start = s.start; last = s.last; next = next; published = s.published; cut = s.cut; count = count } in new ≡ summary_of (appended log e)
delivered_summary log s settings feed said e next count same is after more =
    let d = delivered feed is.judgements said.other in
    let admitted : next ≡ s.next + length (admitted_in d) = after ∙ ap (λ x. s.next + length (admitted_in x)) is.event_is in
    summary_is (appended log d) s.start s.last next s.published s.cut count
    (ap (λ x. x.start) same)
    (same_last s log same ∙ sym (last-appended log d))
    (omega (arith, next-grown log d, same_next s log same, admitted))
    (omega (arith, published-appended log d, same_published s log same))
    (same_cut s log same ∙ sym (cut-appended log d))
    (omega (arith, events-appended log d, same_count s log same, more))
    ∙ ap (λ x. summary_of (appended log x)) (sym is.event_is)

pub delivered_legal : (settings : Settings) (log : History) (s : Summary) (feed : ℕ) (said : Said) (e : Event) → s ≡ summary_of log → IsDeliveryOf settings s.last s.next feed said e → IsLegal settings log → IsLegal settings (appended log e)
delivered_legal settings log s feed said e same is legal =
    let d = delivery_of settings (last_of log) (next_of log) feed said in
    let made : d ≡ e = (λ i. delivery_of settings (sym (same_last s log same) i) (sym (same_next s log same) i) feed said) ∙ sym (delivery_is settings s.last s.next feed said e is) in
    let fits : IsLegalEvent settings log d = legal_delivery settings (last_of log) (next_of log) said.messages in
    subst (λ x. IsLegal settings (appended log x)) made (legal_appended settings log d legal fits)

-- ---- the numbers that are kept

abbrev pub kept : Inside → Summary
kept s = record { start = s.start; last = s.last; next = s.next; published = s.published; cut = s.cut; count = s.count }
