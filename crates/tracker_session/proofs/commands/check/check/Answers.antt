use Rattle.std.proofs.Common.{rules, ◌≡◌, ap, subst, List, ℕ, Ok, Err}
use Rattle.std.specs.Prelude.{string_bytes}
use Rattle.io_traits.specs.Host.{HostState}
use Rattle.io_traits.specs.declared.host.Place.TheVariants as places
use Rattle.session_script.specs.Scripts.{Follows, Script, ends, end_of, picks}
use Rattle.session_script.specs.declared.status.Status.{Status}
use Rattle.session_script.specs.declared.status.Status.TheVariants as statuses
use Rattle.session_script.proofs.Following.{after_pick, after_read, at_end, ended_so, gave_up, reading_broke}
use Rattle.tracker_session.specs.Check.{proved_line, verdict_end}
use Rattle.tracker_session.specs.Checking.{Checks, HasVerdict, Verdict, proved, fails, fault}
use Rattle.tracker_session.specs.Judging.{Judged}
use Rattle.tracker_session.proofs.commands.check.check.Goals as goal

abbrev judging : List ℕ → Script
judging octets = picks (λ (v : HasVerdict octets). ends (verdict_end v.verdict))

-- the verdict on the octets is the end
by_verdict : (octets : List ℕ) (v : Verdict) (host : HostState) → Checks octets v → Follows (judging octets) (verdict_end v) host host
by_verdict octets v host checks = after_pick (λ (w : HasVerdict octets). ends (verdict_end w.verdict)) (record { verdict = v; checks = checks }) (verdict_end v) host host (at_end (verdict_end v) host)

judged_so : (octets : List ℕ) (s : Status) (host : HostState) → Judged octets (Err s) → Follows (judging octets) (Err s) host host
judged_so octets (statuses.NotProved index offset) host h = by_verdict octets (fails index offset) host h
judged_so octets (statuses.Input offset) host h = by_verdict octets (fault offset) host h
judged_so octets statuses.Memory host h = gave_up (judging octets) host
judged_so octets statuses.Done host h = absurd h
judged_so octets statuses.Usage host h = absurd h
judged_so octets (statuses.Settings f) host h = absurd h
judged_so octets (statuses.Read spot) host h = absurd h
judged_so octets (statuses.Write spot) host h = absurd h

pub returns-in_err-octets : goal.returns-in_err-octets
returns-in_err-octets g c =
    let state = g.H.Host.state in
    let s = c.in_err-octets.field-0.0 in
    ended_so _ (Err s) _ (state c.args.host.now) (state c.read_file.new.host) (search rules)
    (reading_broke places.Prices (string_bytes c.args.prices) judging s (state c.args.host.now) (state c.read_file.new.host) c.in_err-octets.ensures.broke)

pub returns-in_err-count : goal.returns-in_err-count
returns-in_err-count g c =
    let state = g.H.Host.state in
    let new = state c.read_file.new.host in
    let octets = c.in_ok-octets.octets.items in
    let s = c.in_err-count.field-0.0 in
    let is : c.from_residual-in_err-count.result ≡ Err s = search rules in
    let judged = subst (λ (o : List ℕ). Judged o (Err s)) c.deref.ensures.value c.in_err-count.ensures in
    ended_so _ (Err s) _ (state c.args.host.now) new (ap end_of is)
    (after_read places.Prices (string_bytes c.args.prices) octets judging (Err s) (state c.args.host.now) new new c.in_ok-octets.ensures.read (judged_so octets s new judged))

pub returns-in_err-proved_line : goal.returns-in_err-proved_line
returns-in_err-proved_line g c =
    let state = g.H.Host.state in
    let new = state c.read_file.new.host in
    let octets = c.in_ok-octets.octets.items in
    ended_so _ (Err statuses.Memory) _ (state c.args.host.now) new (search rules)
    (after_read places.Prices (string_bytes c.args.prices) octets judging (Err statuses.Memory) (state c.args.host.now) new new c.in_ok-octets.ensures.read (gave_up (judging octets) new))

pub returns : goal.returns
returns g c =
    let state = g.H.Host.state in
    let new = state c.read_file.new.host in
    let octets = c.in_ok-octets.octets.items in
    let count = c.in_ok-count.count in
    let text : string_bytes c.in_ok-proved_line.field-0 ≡ proved_line count = search rules in
    let all = subst (λ (o : List ℕ). Checks o (proved count)) c.deref.ensures.value c.in_ok-count.ensures in
    ended_so _ (Ok (proved_line count)) _ (state c.args.host.now) new (ap Ok text)
    (after_read places.Prices (string_bytes c.args.prices) octets judging (Ok (proved_line count)) (state c.args.host.now) new new c.in_ok-octets.ensures.read (by_verdict octets (proved count) new all))
