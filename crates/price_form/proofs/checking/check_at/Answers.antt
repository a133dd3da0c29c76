use Rattle.std.proofs.Common.{refl}
use Rattle.price_form.proofs.InPlace.{columns_at, may_prove, proves_as}
use Rattle.price_form.proofs.checking.check_at.Goals as goal

pub prove-requires-clause-few : goal.prove-requires-clause-few
prove-requires-clause-few c = (may_prove c.requires.has (columns_at c.args.octets.now c.args.at c.requires.cert c.counts_of-counts.result _ _ _ _ c.requires.has c.counts_of-counts.ensures (record { edges_from = refl; pairing_from = refl; u_from = refl; v_from = refl }))).few

pub prove-requires-clause-rising : goal.prove-requires-clause-rising
prove-requires-clause-rising c = (may_prove c.requires.has (columns_at c.args.octets.now c.args.at c.requires.cert c.counts_of-counts.result _ _ _ _ c.requires.has c.counts_of-counts.ensures (record { edges_from = refl; pairing_from = refl; u_from = refl; v_from = refl }))).rising

pub prove-requires-clause-plots : goal.prove-requires-clause-plots
prove-requires-clause-plots c = (may_prove c.requires.has (columns_at c.args.octets.now c.args.at c.requires.cert c.counts_of-counts.result _ _ _ _ c.requires.has c.counts_of-counts.ensures (record { edges_from = refl; pairing_from = refl; u_from = refl; v_from = refl }))).plots

pub prove-requires-clause-tracks : goal.prove-requires-clause-tracks
prove-requires-clause-tracks c = (may_prove c.requires.has (columns_at c.args.octets.now c.args.at c.requires.cert c.counts_of-counts.result _ _ _ _ c.requires.has c.counts_of-counts.ensures (record { edges_from = refl; pairing_from = refl; u_from = refl; v_from = refl }))).tracks_below

pub prove-requires-clause-named : goal.prove-requires-clause-named
prove-requires-clause-named c = (may_prove c.requires.has (columns_at c.args.octets.now c.args.at c.requires.cert c.counts_of-counts.result _ _ _ _ c.requires.has c.counts_of-counts.ensures (record { edges_from = refl; pairing_from = refl; u_from = refl; v_from = refl }))).named

pub prove-requires-clause-plot_prices : goal.prove-requires-clause-plot_prices
prove-requires-clause-plot_prices c = (may_prove c.requires.has (columns_at c.args.octets.now c.args.at c.requires.cert c.counts_of-counts.result _ _ _ _ c.requires.has c.counts_of-counts.ensures (record { edges_from = refl; pairing_from = refl; u_from = refl; v_from = refl }))).plot_prices

pub prove-requires-clause-track_prices : goal.prove-requires-clause-track_prices
prove-requires-clause-track_prices c = (may_prove c.requires.has (columns_at c.args.octets.now c.args.at c.requires.cert c.counts_of-counts.result _ _ _ _ c.requires.has c.counts_of-counts.ensures (record { edges_from = refl; pairing_from = refl; u_from = refl; v_from = refl }))).track_prices

pub returns : goal.returns
returns c = λ cert h. proves_as cert h (columns_at c.args.octets.now c.args.at cert c.counts_of-counts.result _ _ _ _ h c.counts_of-counts.ensures (record { edges_from = refl; pairing_from = refl; u_from = refl; v_from = refl })) c.prove.ensures
