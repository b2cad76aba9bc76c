-- `probes::single_inverse` meets its contract. Assumes nothing.
use mathlib.Core.Path.{◌≡◌, ap, ◌∙◌}
use Rattle.std.specs.Prelude.{is_some}
use Rattle.placement.specs.declared.inverse.Rows.{Rows}
use Rattle.probes.specs.Patterns.{inverse_of, rows_shown, row_bits}
use Rattle.probes.proofs.single_inverse.Goals as goal
use Rattle.probes.proofs.single_inverse.Goals.{After-inverse-found}

-- what was found is the inverse of the three rows
found : (c : After-inverse-found) → c.inverse-found.result ≡ inverse_of c.args.rows.now
unfolding inverse_of
found c =
    rw (
      c.inverse-found.ensures,
      c.row_from-3.ensures,
      c.row_from-2.ensures,
      c.row_from.ensures,
    )

pub returns : goal.returns
returns c =
    let e = found (goal.at.returns c).After-inverse-found in
    let shown : c.unwrap_or-shown.result ≡ rows_shown (inverse_of c.args.rows.now) = c.unwrap_or-shown.ensures ∙ ap rows_shown e in
    record {
      exists_is = c.is_some.ensures ∙ ap is_some e;
      first_stands = c.row_bits.ensures ∙ ap (λ (r : Rows). row_bits r.first) shown;
      second_is = c.row_bits-2.ensures ∙ ap (λ (r : Rows). row_bits r.second) shown;
      third_stands = c.row_bits-3.ensures ∙ ap (λ (r : Rows). row_bits r.third) shown;
    }
