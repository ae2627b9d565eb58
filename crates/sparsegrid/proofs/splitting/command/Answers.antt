use Rattle.std.proofs.Common.{rules, ap, ap₂, true, codes, ◌≡◌, ◌∙◌}
use Rattle.clap.specs.Simple.{app_of, app_of_fields, new_app, on_top, with_rule}
use Rattle.clap.specs.Walk.{rule_of}
use Rattle.sparsegrid.specs.steps.Splitting.{option_of, positionals_given}
use Rattle.sparsegrid.proofs.splitting.command.Goals as goal

pub returns : goal.returns
returns c =
    let workers_is : rule_of c.text_option-workers.result ≡ option_of (codes "workers") = search rules in
    let mode_is : rule_of c.text_option-mode.result ≡ option_of (codes "mode") = search rules in
    let from_is : rule_of c.text_option-from.result ≡ option_of (codes "from") = search rules in
    let positionals_is : rule_of c.action-positionals.result ≡ positionals_given = search rules in
    let named : app_of c.no_binary_name.result ≡ on_top (λ s. record s { no_binary_name = true }) (new_app (codes "sparsegrid")) =
    ap app_of_fields c.no_binary_name.ensures ∙ ap (on_top (λ s. record s { no_binary_name = true })) c.new-2.ensures.app in
    let bare : app_of c.disable_help_flag.result ≡ on_top (λ s. record s { no_binary_name = true; disable_help_flag = true }) (new_app (codes "sparsegrid")) =
    ap app_of_fields c.disable_help_flag.ensures ∙ ap (on_top (λ s. record s { disable_help_flag = true })) named in
    c.in_ok-command.ensures.shape (search rules)
    ∙ ap₂ with_rule
    (c.in_ok-arg-3.ensures.shape (search rules) ∙ ap₂ with_rule (c.in_ok-arg-2.ensures.shape (search rules) ∙ ap₂ with_rule (c.in_ok-arg.ensures.shape (search rules) ∙ ap₂ with_rule bare workers_is) mode_is) from_is) positionals_is
