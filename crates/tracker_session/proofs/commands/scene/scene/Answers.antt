use Rattle.std.proofs.Common.{rules, ◌≡◌, ◌∙◌, ap, subst, List, ℕ, Ok, Err, length}
use Rattle.std.specs.Prelude.{string_bytes}
use Rattle.io_traits.specs.declared.host.Place.TheVariants as places
use Rattle.scene_gen.specs.Scenes.{scene}
use Rattle.session_script.specs.Scripts.{Script, end_of, ends, writes}
use Rattle.session_script.specs.Steps.{PlaceWritten, WritingBroke}
use Rattle.session_script.specs.declared.status.Status.TheVariants.{Memory}
use Rattle.session_script.proofs.Following.{after_open, after_write, at_end, ended_so, gave_up, opening_broke, writing_broke}
use Rattle.tracker_session.specs.Scene.{recording_script, scene_line}
use Rattle.tracker_session.proofs.commands.scene.scene.Goals as goal

abbrev told : List ℕ → Script
told octets = ends (Ok (scene_line (length octets)))

abbrev written : List ℕ → Script
written octets = writes places.Output octets (told octets)

pub returns-in_err-octets : goal.returns-in_err-octets
returns-in_err-octets g c =
    let host = g.H.Host.state c.args.host.now in
    let octets = scene c.args.seed c.args.aircraft c.args.seconds c.args.late in
    let script = recording_script octets (string_bytes c.args.output) in
    ended_so script (Err Memory) (end_of c.from_residual.result) host host (search rules) (gave_up script host)

pub returns-in_err-open_file : goal.returns-in_err-open_file
returns-in_err-open_file g c =
    let state = g.H.Host.state in
    let octets = scene c.args.seed c.args.aircraft c.args.seconds c.args.late in
    let output = string_bytes c.args.output in
    let old = state c.args.host.now in
    let new = state c.open_file.new.host in
    let s = c.in_err-open_file.field-0.0 in
    let is : c.from_residual-in_err-open_file.result ≡ Err s = search rules in
    ended_so (recording_script octets output) (Err s) (end_of c.from_residual-in_err-open_file.result) old new (ap end_of is) (opening_broke places.Output output (written octets) s old new c.in_err-open_file.ensures.broke)

pub returns-in_err-write_file : goal.returns-in_err-write_file
returns-in_err-write_file g c =
    let state = g.H.Host.state in
    let octets = scene c.args.seed c.args.aircraft c.args.seconds c.args.late in
    let output = string_bytes c.args.output in
    let old = state c.args.host.now in
    let mid = state c.open_file.new.host in
    let new = state c.write_file.new.host in
    let s = c.in_err-write_file.field-0.0 in
    let is : c.from_residual-in_err-write_file.result ≡ Err s = search rules in
    let broke = subst (λ (o : List ℕ). WritingBroke places.Output o s mid new) (c.deref.ensures.value ∙ c.in_ok-octets.ensures) c.in_err-write_file.ensures.broke in
    ended_so (recording_script octets output) (Err s) (end_of c.from_residual-in_err-write_file.result) old new (ap end_of is) (after_open places.Output output (written octets) (Err s) old mid new c.in_ok-open_file.ensures.opened (writing_broke places.Output octets (told octets) s mid new broke))

pub returns-in_err-scene_line : goal.returns-in_err-scene_line
returns-in_err-scene_line g c =
    let state = g.H.Host.state in
    let octets = scene c.args.seed c.args.aircraft c.args.seconds c.args.late in
    let output = string_bytes c.args.output in
    let old = state c.args.host.now in
    let mid = state c.open_file.new.host in
    let new = state c.write_file.new.host in
    let wrote = subst (λ (o : List ℕ). PlaceWritten places.Output o mid new) (c.deref.ensures.value ∙ c.in_ok-octets.ensures) c.in_ok-write_file.ensures.written in
    ended_so (recording_script octets output) (Err Memory) (end_of c.from_residual-in_err-scene_line.result) old new (search rules) (after_open places.Output output (written octets) (Err Memory) old mid new c.in_ok-open_file.ensures.opened (after_write places.Output octets (told octets) (Err Memory) mid new new wrote (gave_up (told octets) new)))

pub returns : goal.returns
returns g c =
    let state = g.H.Host.state in
    let octets = scene c.args.seed c.args.aircraft c.args.seconds c.args.late in
    let output = string_bytes c.args.output in
    let old = state c.args.host.now in
    let mid = state c.open_file.new.host in
    let new = state c.write_file.new.host in
    let wrote = subst (λ (o : List ℕ). PlaceWritten places.Output o mid new) (c.deref.ensures.value ∙ c.in_ok-octets.ensures) c.in_ok-write_file.ensures.written in
    let count : c.len.result ≡ length octets = search rules in
    let text : string_bytes c.in_ok-scene_line.field-0 ≡ scene_line (length octets) = c.in_ok-scene_line.ensures ∙ ap scene_line count in
    ended_so (recording_script octets output) (Ok (scene_line (length octets))) (Ok (string_bytes c.in_ok-scene_line.field-0)) old new (ap Ok text) (after_open places.Output output (written octets) (Ok (scene_line (length octets))) old mid new c.in_ok-open_file.ensures.opened (after_write places.Output octets (told octets) (Ok (scene_line (length octets))) mid new new wrote (at_end (Ok (scene_line (length octets))) new)))
