mod Selectors
