use Rattle.std.proofs.Common.{rules, ◌≡◌, ap, inl, inr, refl, subst, List, ℕ, [], ◌∷◌, Err}
use Rattle.std.specs.Arc.{arc_value}
use Rattle.std.specs.Prelude.{string_bytes}
use Rattle.io_traits.specs.declared.host.Place.TheVariants as places
use Rattle.admission_log.specs.declared.settings.Settings as admission
use Rattle.session_script.specs.Scripts.{Follows, Script, end_of, opens}
use Rattle.session_script.proofs.Following.{after_open, after_read, ended_so, opening_broke, reading_broke}
use Rattle.tracker_session.specs.ReplayScript.{prices_script}
use Rattle.tracker_session.specs.Work.{IsSpentOnOctets}
use Rattle.tracker_session.proofs.Spending.{read_still}
use Rattle.tracker_session.proofs.Touched.{both_written, input_read, output_opened, prices_opened, three_then}
use Rattle.tracker_session.proofs.commands.replay.replay_under.Goals as goal

-- what follows where Output is open, and where Input was read
abbrev with_output : admission.Settings → List ℕ → List ℕ → Script
with_output settings prices octets = opens places.Prices prices (prices_script settings octets)

abbrev with_input : admission.Settings → List ℕ → List ℕ → List ℕ → Script
with_input settings output prices octets = opens places.Output output (with_output settings prices octets)

pub returns-in_err-octets-clause-follows : goal.returns-in_err-octets-clause-follows
returns-in_err-octets-clause-follows g c =
    let state = g.H.Host.state in
    let settings = arc_value c.args.settings in
    let s = c.in_err-octets.field-0.0 in
    let is : c.from_residual.result ≡ Err s = search rules in
    let old = state c.args.host.now in
    let new = state c.read_file.new.host in
    ended_so _ (Err s) _ old new (ap end_of is) (reading_broke places.Input (string_bytes c.args.input) (with_input settings (string_bytes c.args.output) (string_bytes c.args.prices)) s old new c.in_err-octets.ensures.broke)

pub returns-in_err-open_file-clause-follows : goal.returns-in_err-open_file-clause-follows
returns-in_err-open_file-clause-follows g c =
    let state = g.H.Host.state in
    let settings = arc_value c.args.settings in
    let output = string_bytes c.args.output in
    let prices = string_bytes c.args.prices in
    let octets = c.in_ok-octets.octets.items in
    let s = c.in_err-open_file.field-0.0 in
    let is : c.from_residual-in_err-open_file.result ≡ Err s = search rules in
    let old = state c.args.host.now in
    let mid = state c.read_file.new.host in
    let new = state c.open_file.new.host in
    ended_so _ (Err s) _ old new (ap end_of is)
    (after_read places.Input (string_bytes c.args.input) octets (with_input settings output prices) (Err s) old mid new c.in_ok-octets.ensures.read
    (opening_broke places.Output output (with_output settings prices octets) s mid new c.in_err-open_file.ensures.broke))

pub returns-in_err-open_file-2-clause-follows : goal.returns-in_err-open_file-2-clause-follows
returns-in_err-open_file-2-clause-follows g c =
    let state = g.H.Host.state in
    let settings = arc_value c.args.settings in
    let output = string_bytes c.args.output in
    let prices = string_bytes c.args.prices in
    let octets = c.in_ok-octets.octets.items in
    let s = c.in_err-open_file-2.field-0.0 in
    let is : c.from_residual-in_err-open_file-2.result ≡ Err s = search rules in
    let old = state c.args.host.now in
    let mid = state c.read_file.new.host in
    let opened = state c.open_file.new.host in
    let new = state c.open_file-2.new.host in
    ended_so _ (Err s) _ old new (ap end_of is)
    (after_read places.Input (string_bytes c.args.input) octets (with_input settings output prices) (Err s) old mid new c.in_ok-octets.ensures.read
    (after_open places.Output output (with_output settings prices octets) (Err s) mid opened new c.in_ok-open_file.ensures.opened
    (opening_broke places.Prices prices (prices_script settings octets) s opened new c.in_err-open_file-2.ensures.broke)))

pub returns-clause-follows : goal.returns-clause-follows
returns-clause-follows g c =
    let state = g.H.Host.state in
    let settings = arc_value c.args.settings in
    let output = string_bytes c.args.output in
    let prices = string_bytes c.args.prices in
    let octets = c.in_ok-octets.octets.items in
    let end = end_of c.begin_prices.result in
    let old = state c.args.host.now in
    let mid = state c.read_file.new.host in
    let opened = state c.open_file.new.host in
    let priced = state c.open_file-2.new.host in
    let new = state c.begin_prices.new.host in
    let took = subst (λ (o : List ℕ). Follows (prices_script settings o) end priced new) c.deref.ensures.value c.begin_prices.ensures.follows in
    after_read places.Input (string_bytes c.args.input) octets (with_input settings output prices) end old mid new c.in_ok-octets.ensures.read
    (after_open places.Output output (with_output settings prices octets) end mid opened new c.in_ok-open_file.ensures.opened
    (after_open places.Prices prices (prices_script settings octets) end opened priced new c.in_ok-open_file-2.ensures.opened took))

pub returns-in_err-octets-clause-spent : goal.returns-in_err-octets-clause-spent
returns-in_err-octets-clause-spent g c = inl refl

pub returns-in_err-open_file-clause-spent : goal.returns-in_err-open_file-clause-spent
returns-in_err-open_file-clause-spent g c = inl refl

pub returns-in_err-open_file-2-clause-spent : goal.returns-in_err-open_file-2-clause-spent
returns-in_err-open_file-2-clause-spent g c = inl refl

pub returns-in_err-octets-clause-touches : goal.returns-in_err-octets-clause-touches
returns-in_err-octets-clause-touches g c =
    let state = g.H.Host.state in
    input_read (state c.args.host.now) (state c.read_file.new.host) c.read_file.ensures.touches

pub returns-in_err-open_file-clause-touches : goal.returns-in_err-open_file-clause-touches
returns-in_err-open_file-clause-touches g c =
    let state = g.H.Host.state in
    let old = state c.args.host.now in
    let mid = state c.read_file.new.host in
    let new = state c.open_file.new.host in
    three_then old mid new (input_read old mid c.read_file.ensures.touches) (output_opened mid new c.open_file.ensures.touches)

pub returns-in_err-open_file-2-clause-touches : goal.returns-in_err-open_file-2-clause-touches
returns-in_err-open_file-2-clause-touches g c =
    let state = g.H.Host.state in
    let old = state c.args.host.now in
    let mid = state c.read_file.new.host in
    let opened = state c.open_file.new.host in
    let new = state c.open_file-2.new.host in
    three_then old mid new (input_read old mid c.read_file.ensures.touches)
    (three_then mid opened new (output_opened mid opened c.open_file.ensures.touches) (prices_opened opened new c.open_file-2.ensures.touches))

pub returns-clause-touches : goal.returns-clause-touches
returns-clause-touches g c =
    let state = g.H.Host.state in
    let old = state c.args.host.now in
    let mid = state c.read_file.new.host in
    let opened = state c.open_file.new.host in
    let priced = state c.open_file-2.new.host in
    let new = state c.begin_prices.new.host in
    three_then old mid new (input_read old mid c.read_file.ensures.touches)
    (three_then mid opened new (output_opened mid opened c.open_file.ensures.touches)
    (three_then opened priced new (prices_opened opened priced c.open_file-2.ensures.touches) (both_written priced new c.begin_prices.ensures.touches)))

pub returns-clause-spent : goal.returns-clause-spent
returns-clause-spent g c =
    let state = g.H.Host.state in
    let settings = arc_value c.args.settings in
    let octets = c.in_ok-octets.octets.items in
    let old = state c.args.host.now in
    let mid = state c.read_file.new.host in
    let opened = state c.open_file.new.host in
    let priced = state c.open_file-2.new.host in
    let new = state c.begin_prices.new.host in
    let spent = subst (λ (o : List ℕ). IsSpentOnOctets settings o c.args.steps.now c.begin_prices.new.steps) c.deref.ensures.value c.begin_prices.ensures.spent in
    let at_open = read_still places.Input octets (places.Output ∷ []) [] [] old mid opened c.in_ok-octets.ensures.read.read c.open_file.ensures.touches refl refl refl in
    let at_prices = read_still places.Input octets (places.Prices ∷ []) [] [] old opened priced at_open c.open_file-2.ensures.touches refl refl refl in
    let at_end = read_still places.Input octets [] [] (places.Output ∷ places.Prices ∷ []) old priced new at_prices c.begin_prices.ensures.touches refl refl refl in
    inr (record { octets = octets; read = at_end; spent = spent })
